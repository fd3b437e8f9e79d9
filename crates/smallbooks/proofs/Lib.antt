-- Every small rule book. A reader has to believe Books, and what it names; SetsLaws says of it that every set comes.
pub mod Choose
pub mod SetsLaws
pub mod Number
pub mod Runs
pub mod ScoreLaws
pub mod Pick
pub mod AnswerLaws
pub mod Tell
pub mod Whole
pub mod Example
