-- Watch lists: for each literal the nodes of its list in order, and for each node its blocker. How the cells hold them.
use Rattle.std.specs.Prelude.{ℕ, suc, ◌+◌, ◌*◌, ◌≤◌, ◌<◌, ◌≡◌, List, [], ◌∷◌, ◌++◌, true, false, eqb, length, get_or, set, take, drop, replicate, map}
use Rattle.std.specs.Simd.{first_chunks}
use Rattle.model.specs.Limits.{max_variables, max_clauses}
use Rattle.model.specs.Lit.{neg}
use Rattle.region.specs.Table.{tabulate, sum_of}
use Rattle.watch.specs.Count.{occ, over}
use Rattle.watch.specs.Follow.{follow}
use Rattle.watch.specs.declared.Size.{Size}

-- the cells of the block, by records of two: a link, and a note, which is a node's blocker or an end of a list
pub record Cells : Type 0 where
  pub links : List ℕ
  pub notes : List ℕ

-- records of two cells
abbrev pub Paired : List (List ℕ) → Type 0
Paired w = (x : ℕ) → x < length w → length (get_or w x []) ≡ 2

unfoldable pub cells_of : List (List ℕ) → Cells
cells_of w = record { links = map (λ r. get_or r 0 0) w; notes = map (λ r. get_or r 1 0) w }

-- one cell set
abbrev pub with_link : ℕ → ℕ → Cells → Cells
with_link x y c = record { links = set c.links x y; notes = c.notes }

abbrev pub with_note : ℕ → ℕ → Cells → Cells
with_note x v c = record { links = c.links; notes = set c.notes x v }

abbrev pub with_notes : List ℕ → Cells → Cells
with_notes vs c = record { links = c.links; notes = vs }

-- clause c has the nodes 2c and 2c + 1. The cells are shown as well: links behind a list's end, and of nodes in no list, among them
pub record Watches : Type 0 where
  pub lists : List (List ℕ)
  pub blockers : List ℕ
  pub cells : Cells

abbrev pub list_of : Watches → ℕ → List ℕ
list_of s l = get_or s.lists l []

-- the links of list l, whose nodes are xs, by their records: the two of the list, which stand behind the n nodes, and the nodes'. The link at place i names the node at
-- place i; the two behind these name none
abbrev pub names : ℕ → ℕ → List ℕ → List ℕ
names n l xs = (n + 2 * l) ∷ (n + 2 * l + 1) ∷ xs

-- ---- what the functions do

-- the list without its node at place i
abbrev pub without : {A : Type 0} → ℕ → List A → List A
without i xs = take i xs ++ drop (suc i) xs

-- node x goes to the end of the list whose first record is e, with the blocker b: the first link behind the end names it, and its own comes behind the second
unfoldable pub cells_appended : ℕ → ℕ → ℕ → Cells → Cells
cells_appended e x b c =
    with_link (get_or c.notes e 0) x (with_note (e + 1) x (with_note e (get_or c.notes (e + 1) 0) (with_note x b c)))

unfoldable pub appended : ℕ → ℕ → ℕ → Watches → Watches
appended l x b s =
    record {
      lists = set s.lists l (list_of s l ++ (x ∷ []));
      blockers = set s.blockers x b;
      cells = cells_appended (length s.blockers + 2 * l) x b s.cells;
    }

-- the first two literals of clause c are watched, each with the other as blocker
unfoldable pub attached : ℕ → ℕ → ℕ → Watches → Watches
attached c p q s = appended (neg q) (2 * c + 1) p (appended (neg p) (2 * c) q s)

-- the last node leaves the list whose first record is e: the links to it and behind it, a and b, are behind the end
abbrev pub cut_last : ℕ → ℕ → ℕ → Cells → Cells
cut_last e a b c = with_note (e + 1) b (with_note e a c)

-- another node x leaves it: the link to it and the next one, a and b, go one node further
abbrev pub cut_inner : ℕ → ℕ → ℕ → Cells → Cells
cut_inner a b x c = with_link b (get_or c.links x 0) (with_link a (get_or c.links b 0) c)

-- the node at place i leaves the list whose links are those of the records ls: the list's first record comes first, and two links stand behind its end
unfoldable pub cells_unlinked : List ℕ → ℕ → Cells → Cells
cells_unlinked ls i c =
    let e = get_or ls 0 0 in
    let a = get_or ls i 0 in
    let b = get_or ls (suc i) 0 in
    let k = cut_inner a b (get_or ls (suc (suc i)) 0) c in
    elim (eqb (suc (suc (suc i))) (length ls)) [
      | true ↦ cut_last e a b c
      | false ↦ elim (eqb (suc (suc (suc (suc i)))) (length ls)) [ true ↦ with_note e b k | false ↦ k ]
    ]

-- the node at place i of list l leaves it
unfoldable pub unlinked : ℕ → ℕ → Watches → Watches
unlinked l i s =
    record {
      lists = set s.lists l (without i (list_of s l));
      blockers = s.blockers;
      cells = cells_unlinked (names (length s.blockers) l (list_of s l)) i s.cells;
    }

-- the node at place i of list l goes to the end of list m, with the blocker b
unfoldable pub moved : ℕ → ℕ → ℕ → ℕ → Watches → Watches
moved l i m b s =
    let x = get_or (list_of s l) i 0 in
    record {
      lists = set (set s.lists l (without i (list_of s l))) m (list_of s m ++ (x ∷ []));
      blockers = set s.blockers x b;
      cells = cells_appended (length s.blockers + 2 * m) x b (cells_unlinked (names (length s.blockers) l (list_of s l)) i s.cells);
    }

unfoldable pub blocked : ℕ → ℕ → Watches → Watches
blocked x b s = record { lists = s.lists; blockers = set s.blockers x b; cells = with_note x b s.cells }

-- n lists: the links behind the end of each are its own two, and every other cell is as it was
unfoldable pub emptied : ℕ → Watches → Watches
emptied n s =
    record { lists = replicate n []; blockers = s.blockers; cells = with_notes (s.blockers ++ tabulate (2 * n) (λ i. length s.blockers + i)) s.cells }

-- ---- what holds of the lists

-- each node stands in one place at most
abbrev pub Apart : List (List ℕ) → Type 0
Apart ls = (y : ℕ) → sum_of (occ y) ls ≤ 1

-- each node is one of the first m
abbrev pub Under : ℕ → List (List ℕ) → Type 0
Under m ls = sum_of (over m) ls ≡ 0

-- node x is in no list
abbrev pub Free : ℕ → List (List ℕ) → Type 0
Free x ls = sum_of (occ x) ls ≡ 0

pub record Chains (m : ℕ) (ls : List (List ℕ)) : Type 0 where
  pub apart : Apart ls
  pub under : Under m ls

-- ---- the lists that the cells hold

abbrev pub records : Size → ℕ
records d = d.nodes + 2 * d.slots

abbrev pub chain : Size → Cells → ℕ → List ℕ
chain d c l = follow c.links d.nodes (get_or c.notes (d.nodes + 2 * l) 0) (d.nodes + 2 * l) (d.nodes + 2 * l + 1)

abbrev pub chains : Size → Cells → List (List ℕ)
chains d c = tabulate d.slots (chain d c)

abbrev pub pack : Size → Cells → List (List ℕ) → Watches
pack d c ls = record { lists = ls; blockers = take d.nodes c.notes; cells = c }

unfoldable pub shown : Size → Cells → Watches
shown d c = pack d c (chains d c)

-- list l is xs: its links name its nodes in turn, and its two records have the links behind its end
pub record Thread (n : ℕ) (c : Cells) (l : ℕ) (xs : List ℕ) : Type 0 where
  pub links : (i : ℕ) → i < length xs → get_or c.links (get_or (names n l xs) i 0) 0 ≡ get_or xs i 0
  pub end : get_or c.notes (n + 2 * l) 0 ≡ get_or (names n l xs) (length xs) 0
  pub behind : get_or c.notes (n + 2 * l + 1) 0 ≡ get_or (names n l xs) (suc (length xs)) 0

-- the cells hold the lists ls
pub record Linked (d : Size) (c : Cells) (ls : List (List ℕ)) : Type 0 where
  pub count : length ls ≡ d.slots
  pub threads : (l : ℕ) → l < d.slots → Thread d.nodes c l (get_or ls l [])
  pub chains : Chains d.nodes ls

-- a record for each node, and two for each list
pub record Room (d : Size) (c : Cells) : Type 0 where
  pub slots : d.slots ≤ 2 * max_variables
  pub nodes : d.nodes ≤ 2 * max_clauses
  pub links : length c.links ≡ records d
  pub notes : length c.notes ≡ records d

-- the cells are laid out as watch lists
pub record Rep (d : Size) (c : Cells) : Type 0 where
  pub room : Room d c
  pub linked : Linked d c (chains d c)

-- the cells hold the watch lists s
pub record Holds (d : Size) (c : Cells) (s : Watches) : Type 0 where
  pub rep : Rep d c
  pub view : shown d c ≡ s

-- what a slice shows before its lists are made
abbrev pub found : ℕ → ℕ → List ℕ → Watches
found m n w = shown (record { slots = m; nodes = n }) (cells_of (first_chunks 2 (n + 2 * m) w))

-- a slice's first records are laid out as m lists of n nodes
abbrev pub LaidOut : ℕ → ℕ → List ℕ → Type 0
LaidOut m n w = Rep (record { slots = m; nodes = n }) (cells_of (first_chunks 2 (n + 2 * m) w))

-- what every value keeps: the cells hold its lists and blockers
pub record Sound (s : Watches) : Type 0 where
  pub lists : length s.lists ≤ 2 * max_variables
  pub blockers : length s.blockers ≤ 2 * max_clauses
  pub links : length s.cells.links ≡ length s.blockers + 2 * length s.lists
  pub notes : length s.cells.notes ≡ length s.blockers + 2 * length s.lists
  pub nodes : take (length s.blockers) s.cells.notes ≡ s.blockers
  pub threads : (l : ℕ) → l < length s.lists → Thread (length s.blockers) s.cells l (list_of s l)
  pub chains : Chains (length s.blockers) s.lists
