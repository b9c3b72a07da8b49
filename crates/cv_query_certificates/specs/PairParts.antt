-- The parts of a certificate behind its entries: perhaps a list of variables whose values are taken to differ, and then a derivation for
-- each pair that is needed. Which of them is wrong first, and where. This profile's own.
use Rattle.std.specs.Prelude.{◌≡◌, ℕ, Bool, true, false, ◌&&◌, ◌==◌, nat_lt, not, if◌then◌else◌, List, [], ◌∷◌, map, Option, None, Some, is_some}
use Rattle.std.specs.List.{list_any}
use Rattle.cv_syntax_trees.specs.lists.Options.{first_of}
use Rattle.cv_syntax_trees.specs.declared.head.Head.TheVariants.{DistinctPart, Line, Name, Pair}
use Rattle.cv_syntax_trees.specs.Tree.{Tree, Empty, Node, chain, first}
use Rattle.cv_scene.specs.lines.Ends.{ends_with}
use Rattle.cv_scene.specs.Derivations.{first_bad_line}
use Rattle.cv_scene.specs.Large.{first_other_site, is_large}
use Rattle.cv_scene.specs.Pairs.{pair_at}
use Rattle.cv_scene.specs.Scenes.{Scene}
use Rattle.cv_query_certificates.specs.EventNodes.{place_in}
use Rattle.cv_query_certificates.specs.Marks.{plain}
use Rattle.cv_query_certificates.specs.Pairs.{Needed, ends_of_pair}
use Rattle.cv_query_certificates.specs.Secrets.{first_definition}

-- the parts behind so many entries
abbrev pub behind_entries : List ℕ → (parts : Tree) → Tree
behind_entries [] parts = parts
behind_entries (p ∷ ps) Empty = Empty
behind_entries (p ∷ ps) (Node h part more) = behind_entries ps more

-- the variables whose values are taken to differ, and the pairs

abbrev pub names_in : (names : Tree) → List ℕ
names_in (Node h (Node (Name x) a b) more) = x ∷ names_in more
names_in names = []

abbrev pub distinct_in : (parts : Tree) → List ℕ
distinct_in (Node h (Node DistinctPart names e) more) = names_in names
distinct_in parts = []

abbrev pub pairs_in : (parts : Tree) → Tree
pairs_in (Node h (Node DistinctPart names e) more) = more
pairs_in parts = parts

-- lines that say these terms
abbrev pub saying : List Tree → Tree
saying ts = chain (map (λ t. Node Line t Empty) ts)

-- a derivation at two places, in plain names: its lines are right, and it ends with one of the lists of terms with which it may

abbrev pub ends_pair : Scene → (k p q : ℕ) → (by : Tree) → Bool
ends_pair s k p q by = list_any (λ ts. ends_with by (saying ts)) (ends_of_pair s k p q)

abbrev pub proves_pair : Scene → (k : ℕ) → (distinct : List ℕ) → Needed → (by : Tree) → Bool
proves_pair s k ds n by =
    not (is_some (first_bad_line (pair_at s n.first n.second k n.given ds) by)) && ends_pair s k n.first n.second by

-- a part that is this pair
abbrev pub is_pair : Needed → (p q atom : Tree) → Bool
is_pair n p q c = place_in p == n.first && (place_in q == n.second && place_in c == n.atom)

abbrev pub least : ℕ → ℕ → ℕ
least p q = if nat_lt q p then q else p

-- the place of a part that is to be this pair, where it isn't: of two pairs the lesser one counts, and it has the lesser first place
abbrev pub pair_fault : Scene → (k : ℕ) → (distinct : List ℕ) → Needed → (part : Tree) → Option ℕ
pair_fault s k ds n (Node Pair p (Node h q (Node g c by))) =
    if is_pair n p q c then (if proves_pair s k ds n (plain k by) then None else Some n.first) else Some (least n.first (place_in p))
pair_fault s k ds n part = Some n.first

-- the place of the first pair that isn't the needed one or isn't right, of one that is missing, or of one too many
abbrev pub first_wrong_pair : Scene → (k : ℕ) → (distinct : List ℕ) → List Needed → (parts : Tree) → Option ℕ
first_wrong_pair s k ds [] Empty = None
first_wrong_pair s k ds [] (Node h part more) = Some (place_in (first part))
first_wrong_pair s k ds (n ∷ ns) Empty = Some n.first
first_wrong_pair s k ds (n ∷ ns) (Node h part more) = first_of (pair_fault s k ds n part) (first_wrong_pair s k ds ns more)

-- each pair that is needed has its part, in order, and nothing else stands there

abbrev pub IsPair : Scene → (k : ℕ) → (distinct : List ℕ) → Needed → (part : Tree) → Type 0
IsPair s k ds n (Node Pair p (Node h q (Node g c by))) = (is_pair n p q c ≡ true) × (proves_pair s k ds n (plain k by) ≡ true)
IsPair s k ds n part = ⊥

abbrev pub ArePairs : Scene → (k : ℕ) → (distinct : List ℕ) → List Needed → (parts : Tree) → Type 0
ArePairs s k ds [] Empty = Unit {0}
ArePairs s k ds (n ∷ ns) (Node h part more) = IsPair s k ds n part × ArePairs s k ds ns more
ArePairs s k ds ns parts = ⊥

-- A variable whose values are taken to differ: it has a site, each of its sites is a `new` of a large type, and it is named once. Where
-- it isn't so, the site where it isn't, or its first one, or 0 where it has none.

abbrev pub is_named_in : List ℕ → ℕ → Bool
is_named_in xs x = list_any (λ y. y == x) xs

abbrev pub distinct_fault : Scene → (before : List ℕ) → (x : ℕ) → (site : Option ℕ) → Option ℕ
distinct_fault s xs x None = Some 0
distinct_fault s xs x (Some p) = first_of (first_other_site (is_large s) x 0 s.game) (if is_named_in xs x then Some p else None)

abbrev pub first_unfit_name : Scene → (before : List ℕ) → (names : List ℕ) → Option ℕ
first_unfit_name s xs [] = None
first_unfit_name s xs (y ∷ ys) = first_of (distinct_fault s xs y (first_definition s.game y)) (first_unfit_name s (y ∷ xs) ys)

pub record IsDistinct (s : Scene) (before : List ℕ) (x : ℕ) : Type 0 where
  pub defined : is_some (first_definition s.game x) ≡ true
  pub chosen : first_other_site (is_large s) x 0 s.game ≡ None
  pub once : is_named_in before x ≡ false

abbrev pub AreDistinct : Scene → (before : List ℕ) → (names : List ℕ) → Type 0
AreDistinct s xs [] = Unit {0}
AreDistinct s xs (y ∷ ys) = IsDistinct s xs y × AreDistinct s (y ∷ xs) ys
