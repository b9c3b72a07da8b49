-- The first rule that an equivalence breaks, and the first equivalence of a file that breaks one.
use Rattle.std.specs.Prelude.{◌≡◌, ℕ, suc, ◌+◌, Bool, true, false, if◌then◌else◌, List, [], ◌∷◌, ◌++◌, length, Option, Some, None}
use Rattle.std.specs.List.{AllByRecursion}
use Rattle.cv_syntax_trees.specs.Declarations.{Declaration, Equiv}
use Rattle.cv_syntax_trees.specs.Tree.{Tree}
use Rattle.cv_group_rules.specs.Symbols.{Symbols}
use Rattle.cv_group_rules.specs.Rules.{left_bodies_are_terms, branches_have_one_index, shapes_agree, names_are_bound, names_are_read}

-- the rules, in order
pub data GroupRule : Type 0 where
  LeftIsTerm OneIndex SameShape BoundNames ReadNames : GroupRule

abbrev pub keeps : Symbols → GroupRule → Tree → Bool
keeps symbols LeftIsTerm t = left_bodies_are_terms t
keeps symbols OneIndex t = branches_have_one_index t
keeps symbols SameShape t = shapes_agree t
keeps symbols BoundNames t = names_are_bound symbols t
keeps symbols ReadNames t = names_are_read t

-- each rule is kept
pub record IsAccepted (symbols : Symbols) (t : Tree) : Type 0 where
  pub kept : (r : GroupRule) → keeps symbols r t ≡ true

-- the rules before one
abbrev pub rules_before : GroupRule → List GroupRule
rules_before LeftIsTerm = []
rules_before OneIndex = LeftIsTerm ∷ []
rules_before SameShape = LeftIsTerm ∷ OneIndex ∷ []
rules_before BoundNames = LeftIsTerm ∷ OneIndex ∷ SameShape ∷ []
rules_before ReadNames = LeftIsTerm ∷ OneIndex ∷ SameShape ∷ BoundNames ∷ []

-- this rule is broken, and those before it are kept
pub record IsFirstBroken (symbols : Symbols) (t : Tree) (r : GroupRule) : Type 0 where
  pub broken : keeps symbols r t ≡ false
  pub kept : AllByRecursion (λ q. keeps symbols q t ≡ true) (rules_before r)

-- the first rule that is broken, computed

abbrev pub or_else : Bool → GroupRule → Option GroupRule → Option GroupRule
or_else kept r more = if kept then more else Some r

unfoldable pub group_fault : Symbols → Tree → Option GroupRule
group_fault symbols t =
    or_else (left_bodies_are_terms t) LeftIsTerm
    (or_else (branches_have_one_index t) OneIndex
    (or_else (shapes_agree t) SameShape
    (or_else (names_are_bound symbols t) BoundNames
    (or_else (names_are_read t) ReadNames None))))

-- the equivalences of a file, in its order; a collision is one
unfoldable pub equivalences_in : List Declaration → List Tree
equivalences_in [] = []
equivalences_in (Equiv id t ∷ ds) = t ∷ equivalences_in ds
equivalences_in (d ∷ ds) = equivalences_in ds

abbrev pub AreAccepted : Symbols → List Tree → Type 0
AreAccepted symbols ts = AllByRecursion (IsAccepted symbols) ts

-- the equivalence of this number, from 1, breaks this rule first, and all before it are accepted
pub record IsFirstGroupFault (symbols : Symbols) (ts : List Tree) (k : ℕ) (r : GroupRule) : Type 0 where
  pub before : List Tree
  pub equivalence : Tree
  pub behind : List Tree
  pub parts : ts ≡ before ++ equivalence ∷ behind
  pub number : k ≡ length before + 1
  pub accepted : AreAccepted symbols before
  pub broken : IsFirstBroken symbols equivalence r

-- the same, computed

abbrev pub later : Option (ℕ × GroupRule) → Option (ℕ × GroupRule)
later None = None
later (Some (k, r)) = Some (suc k, r)

abbrev pub refused_or : Option GroupRule → Option (ℕ × GroupRule) → Option (ℕ × GroupRule)
refused_or None more = later more
refused_or (Some r) more = Some (1, r)

unfoldable pub first_group_fault : Symbols → List Tree → Option (ℕ × GroupRule)
first_group_fault symbols [] = None
first_group_fault symbols (t ∷ ts) = refused_or (group_fault symbols t) (first_group_fault symbols ts)
