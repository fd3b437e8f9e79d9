-- Every small rule book. A reader has to believe Books, and what it names; SetsLaws says of it that every set comes.
pub mod Choose
pub mod Books
pub mod Sets
pub mod Score
pub mod Pick
pub mod Tell
pub mod Whole
