-- Why the body of a construct isn't reached, by what is plainly known there, and the derivation of `false` that says it. This profile's
-- own.
use Rattle.std.specs.Prelude.{◌≡◌, ◌⊎◌, ℕ, ◌+◌, ◌<◌, ◌^◌, Bool, true, false, List, [], ◌∷◌, ◌++◌, length, Some}
use Rattle.std.specs.List.{list_any}
use Rattle.cv_syntax_trees.specs.declared.head.Head.TheVariants as head
use Rattle.cv_syntax_trees.specs.declared.head.Head.TheVariants.{Eq, Not}
use Rattle.cv_syntax_trees.specs.Tree.{Tree, Empty, Node, first, same_tree}
use Rattle.cv_step_writer.specs.Items.{number, numbers, over}
use Rattle.cv_scope_rules.specs.Context.{items}
use Rattle.cv_scene.specs.Late.{index_term, is_late_one}
use Rattle.cv_scene.specs.Pruning.{Else, Part}
use Rattle.cv_scene.specs.Sights.{Sight, from_one, site_facts, variable_of}
use Rattle.cv_scene.specs.lines.Lines.{Holds, IsDefined}
use Rattle.cv_scene.specs.lines.Truths.{no, yes}
use Rattle.cv_settling_rules.specs.Lines.{Citation, IsCited, Line, citation_lines, derivation}

-- an equation of a term with an index, as a conjunct: the index is its left side where it is turned
pub record Equated : Type 0 where
  pub term : Tree
  pub index : Tree
  pub is_turned : Bool
  pub citation : Citation

pub data Why : Type 0 where
  -- the body's own fact is `false`, or the negation of `true`
  Alone : Why
  -- it is the negation of this conjunct, and this conjunct is its negation
  DeniesConjunct ConjunctDenies : Citation → Why
  -- a cell of the list is of a variable at whose only definition this conjunct, with the cell's index terms, is `false`
  Cell : (cell : Tree) → Citation → Why
  -- a cell of the list is of a variable that comes later, at the current indices: of each index term that isn't one itself, the
  -- equation
  Late : (cell : Tree) → List Equated → Why

-- which body of a construct it is, the condition of the construct, the number of the body's own fact, and why it isn't reached
pub record Unreached : Type 0 where
  pub part : Part
  pub condition : Tree
  pub fact : ℕ
  pub why : Why

-- the body's own fact: the condition of its construct, or that it doesn't hold
abbrev pub own_fact : Part → (condition : Tree) → Tree
own_fact Else c = Node Not c Empty
own_fact part c = c

-- where a reason is one

abbrev pub IsAbsurd : Part → (condition : Tree) → Type 0
IsAbsurd Else c = c ≡ yes
IsAbsurd part c = c ≡ no

abbrev pub equation : (is_turned : Bool) → (term index : Tree) → Tree
equation true m i = Node Eq i m
equation false m i = Node Eq m i

pub record IsEquated (facts : List Tree) (m i : Tree) (e : Equated) : Type 0 where
  pub term : e.term ≡ m
  pub index : e.index ≡ i
  pub conjunct : IsCited facts e.citation (equation e.is_turned e.term e.index)

-- the terms are the outermost current indices: each is the index itself, or the next equation is one of it with the index
abbrev pub AreEquated : (facts : List Tree) → List (ℕ × ℕ) → (terms : List Tree) → List Equated → Type 0
AreEquated facts rs [] es = es ≡ []
AreEquated facts [] (m ∷ ms) es = ⊥
AreEquated facts (r ∷ rs) (m ∷ ms) es =
    ((same_tree m (index_term r) ≡ true) × AreEquated facts rs ms es)
    ⊎ ((same_tree m (index_term r) ≡ false)
    × (e : Equated) × (later : List Equated) × (es ≡ e ∷ later) × IsEquated facts m (index_term r) e × AreEquated facts rs ms later)

-- of the body of a construct with a condition, whose own fact has this number
abbrev pub IsReason : Sight → Part → (condition : Tree) → (fact : ℕ) → Why → Type 0
IsReason s part c k Alone = (from_one s.facts k ≡ Some (own_fact part c)) × IsAbsurd part c
IsReason s part c k (DeniesConjunct q) =
    (from_one s.facts k ≡ Some (own_fact part c)) × (m : Tree) × IsCited s.facts q m × (own_fact part c ≡ Node Not m Empty)
IsReason s part c k (ConjunctDenies q) = (from_one s.facts k ≡ Some (own_fact part c)) × IsCited s.facts q (Node Not (own_fact part c) Empty)
IsReason s part c k (Cell cell q) = (list_any (same_tree cell) s.cells ≡ true) × IsCited (site_facts s cell) q no
IsReason s part c k (Late cell es) =
    (list_any (same_tree cell) s.cells ≡ true) × (is_late_one (variable_of cell) s.scene.game s.place ≡ true)
    × AreEquated s.facts s.replications (items (first cell)) es

-- the lines that say it

abbrev pub own_line : Part → (condition : Tree) → (fact : ℕ) → Line
own_line part c k = record { says = Holds (own_fact part c); reason = over head.ByFact (number k ∷ []) }

abbrev pub absurdity : (line negation : ℕ) → Line
absurdity l k = record { says = Holds no; reason = over head.ByContra (number l ∷ number k ∷ []) }

abbrev pub defined_line : (cell : Tree) → Line
defined_line c = record { says = IsDefined c; reason = over head.ByHere [] }

abbrev pub by_fact : Citation → Tree
by_fact q = over head.ByFact (number q.fact ∷ [])

abbrev pub lines_alone : Part → (condition : Tree) → (fact : ℕ) → List Line
lines_alone Else c k = record { says = Holds c; reason = over head.ByBool [] } ∷ own_line Else c k ∷ absurdity 1 2 ∷ []
lines_alone part c k = own_line part c k ∷ []

-- the number of the last line that cites a conjunct
abbrev pub last_of_citation : (line : ℕ) → Citation → ℕ
last_of_citation l q = l + length q.sides

abbrev pub turned_lines : (is_turned : Bool) → (line : ℕ) → (term index : Tree) → List Line
turned_lines true l m i = record { says = Holds (Node Eq m i); reason = over head.BySym (number l ∷ []) } ∷ []
turned_lines false l m i = []

abbrev pub equation_lines : (line : ℕ) → Equated → List Line
equation_lines l e = citation_lines l (by_fact e.citation) e.citation ++ turned_lines e.is_turned (last_of_citation l e.citation) e.term e.index

-- the number of the last of these lines

abbrev pub last_of_turned : (is_turned : Bool) → (line : ℕ) → ℕ
last_of_turned true l = l + 1
last_of_turned false l = l

abbrev pub last_of_equation : (line : ℕ) → Equated → ℕ
last_of_equation l e = last_of_turned e.is_turned (last_of_citation l e.citation)

abbrev pub all_equation_lines : (line : ℕ) → List Equated → List Line
all_equation_lines l [] = []
all_equation_lines l (e ∷ es) = equation_lines l e ++ all_equation_lines (last_of_equation l e + 1) es

abbrev pub equation_numbers : (line : ℕ) → List Equated → List ℕ
equation_numbers l [] = []
equation_numbers l (e ∷ es) = last_of_equation l e ∷ equation_numbers (last_of_equation l e + 1) es

abbrev pub late_line : (line : ℕ) → List ℕ → Line
late_line l ls = record { says = Holds no; reason = over head.ByLate (number l ∷ numbers ls ∷ []) }

abbrev pub late_lines : (cell : Tree) → List Equated → List Line
late_lines cell es =
    all_equation_lines 1 es ++ defined_line cell ∷ late_line (1 + length (all_equation_lines 1 es)) (equation_numbers 1 es) ∷ []

abbrev pub lines_by : Part → (condition : Tree) → (fact : ℕ) → Why → List Line
lines_by part c k Alone = lines_alone part c k
lines_by part c k (DeniesConjunct q) =
    citation_lines 1 (by_fact q) q ++ own_line part c k ∷ absurdity (last_of_citation 1 q) (last_of_citation 1 q + 1) ∷ []
lines_by part c k (ConjunctDenies q) =
    citation_lines 1 (by_fact q) q ++ own_line part c k ∷ absurdity (last_of_citation 1 q + 1) (last_of_citation 1 q) ∷ []
lines_by part c k (Cell cell q) = defined_line cell ∷ citation_lines 2 (over head.BySite (number 1 ∷ number q.fact ∷ [])) q
lines_by part c k (Late cell es) = late_lines cell es

-- the derivation
abbrev pub derivation_of : Unreached → Tree
derivation_of u = derivation (lines_by u.part u.condition u.fact u.why)

-- what is cited
abbrev pub cited_facts : Sight → Why → List Tree
cited_facts s (Cell cell q) = site_facts s cell
cited_facts s why = s.facts

-- the body at the place isn't reached for this reason; the facts that are cited, and the lines, are few enough to be numbered
pub record IsUnreached (s : Sight) (u : Unreached) : Type 0 where
  pub reason : IsReason s u.part u.condition u.fact u.why
  pub facts : length (cited_facts s u.why) < 2 ^ 32
  pub lines : length (lines_by u.part u.condition u.fact u.why) < 2 ^ 32
