-- Of a variable whose definitions copy values of others, the pairs of definitions that a certificate of secrecy for many sessions has to
-- tell apart: two copies of one value are one copy, or there are no two such. Blanchet, TDSC 2008, for secrecy of many sessions; pairs
-- are this profile's own.
use Rattle.std.specs.Prelude.{◌≡◌, ℕ, Bool, true, ◌&&◌, ◌==◌, not, if◌then◌else◌, List, [], ◌∷◌, ◌++◌, map, flat_map, Option, None, Some, is_some}
use Rattle.std.specs.List.{list_any}
use Rattle.cv_syntax_trees.specs.lists.Options.{first_of}
use Rattle.cv_syntax_trees.specs.declared.head.Head.{Head}
use Rattle.cv_syntax_trees.specs.declared.head.Head.TheVariants.{Leaf, Let, Read, SecretPair}
use Rattle.cv_syntax_trees.specs.Tree.{Tree, Empty, Node, first, first_place, second_place}
use Rattle.cv_scope_rules.specs.Context.{items}
use Rattle.cv_scene.specs.lines.Ends.{ends_with}
use Rattle.cv_scene.specs.lines.Truths.{no}
use Rattle.cv_scene.specs.Derivations.{first_bad_line}
use Rattle.cv_scene.specs.Late.{index_term}
use Rattle.cv_scene.specs.Pairs.{all_of_second, pair_at, second_indices}
use Rattle.cv_scene.specs.Scenes.{Scene}
use Rattle.cv_scene.specs.Terms.{replications_at}
use Rattle.cv_query_certificates.specs.EventNodes.{place_in}
use Rattle.cv_query_certificates.specs.Marks.{plain, raise_of}
use Rattle.cv_query_certificates.specs.PairParts.{least, saying}
use Rattle.cv_query_certificates.specs.Pairs.{equations_between}

-- a `let` at a place that copies a cell of a variable, with the cell's index terms
pub record Copy : Type 0 where
  pub place : ℕ
  pub source : ℕ
  pub indices : List Tree

abbrev pub copy_of : (place : ℕ) → (term : Tree) → List Copy
copy_of p (Node (Leaf y) a b) = record { place = p; source = y; indices = [] } ∷ []
copy_of p (Node (Read y) ms b) = record { place = p; source = y; indices = items ms } ∷ []
copy_of p term = []

abbrev pub copy_here : (x place : ℕ) → Head → (first : Tree) → List Copy
copy_here x p (Let y T) m = if y == x then copy_of p m else []
copy_here x p h m = []

-- those of a variable, in preorder
unfoldable pub copies_in : (x place : ℕ) → Tree → List Copy
copies_in x p Empty = []
copies_in x p (Node h a b) = copy_here x p h a ++ (copies_in x (first_place p h) a ++ copies_in x (second_place p h a) b)

-- two places at which one value may be copied, with the equations that are given
pub record NeededSecret : Type 0 where
  pub first : ℕ
  pub second : ℕ
  pub given : List Tree

abbrev pub secret_pair : Scene → (k : ℕ) → Copy → Copy → List NeededSecret
secret_pair s k c d =
    if c.source == d.source
    then record { first = c.place; second = d.place; given = equations_between c.indices (all_of_second k (replications_at s d.place) d.indices) } ∷ []
    else []

-- by the first place, then the second
abbrev pub secret_pairs_among : Scene → (k : ℕ) → List Copy → List NeededSecret
secret_pairs_among s k [] = []
secret_pairs_among s k (c ∷ cs) = flat_map (secret_pair s k c) (c ∷ cs) ++ secret_pairs_among s k cs

abbrev pub needed_secrets : Scene → (k : ℕ) → (x : ℕ) → List NeededSecret
needed_secrets s k x = secret_pairs_among s k (copies_in x 0 s.game)

-- what a pair's derivation may end with: the indices of both copies are equal, or there are no two such copies
abbrev pub ends_of_secret : Scene → (k p q : ℕ) → List (List Tree)
ends_of_secret s k p q =
    equations_between (map index_term (replications_at s p)) (map index_term (second_indices k (replications_at s q))) ∷ (no ∷ []) ∷ []

-- a derivation at both places, in plain names: its lines are right, and it ends with one of the lists of terms with which it may

abbrev pub ends_secret : Scene → (k p q : ℕ) → (by : Tree) → Bool
ends_secret s k p q by = list_any (λ ts. ends_with by (saying ts)) (ends_of_secret s k p q)

abbrev pub proves_secret : Scene → (k : ℕ) → NeededSecret → (by : Tree) → Bool
proves_secret s k n by =
    not (is_some (first_bad_line (pair_at s n.first n.second k n.given []) by))
    && ends_secret s k n.first n.second by

-- a part that is this pair
abbrev pub is_secret_pair : NeededSecret → (p q : Tree) → Bool
is_secret_pair n p q = place_in p == n.first && place_in q == n.second

-- the place of a part that is to be this pair, where it isn't: of two pairs the lesser one counts, and it has the lesser first place
abbrev pub secret_pair_fault : Scene → (k : ℕ) → NeededSecret → (part : Tree) → Option ℕ
secret_pair_fault s k n (Node SecretPair p (Node h q by)) =
    if is_secret_pair n p q then (if proves_secret s k n (plain k by) then None else Some n.first) else Some (least n.first (place_in p))
secret_pair_fault s k n part = Some n.first

-- the place of the first pair that isn't the needed one or isn't right, of one that is missing, or of one too many
abbrev pub first_wrong_secret : Scene → (k : ℕ) → List NeededSecret → (parts : Tree) → Option ℕ
first_wrong_secret s k [] Empty = None
first_wrong_secret s k [] (Node h part more) = Some (place_in (first part))
first_wrong_secret s k (n ∷ ns) Empty = Some n.first
first_wrong_secret s k (n ∷ ns) (Node h part more) = first_of (secret_pair_fault s k n part) (first_wrong_secret s k ns more)

-- each pair that is needed has its part, in order, and nothing else stands there

abbrev pub IsSecretPair : Scene → (k : ℕ) → NeededSecret → (part : Tree) → Type 0
IsSecretPair s k n (Node SecretPair p (Node h q by)) = (is_secret_pair n p q ≡ true) × (proves_secret s k n (plain k by) ≡ true)
IsSecretPair s k n part = ⊥

abbrev pub AreSecretPairsFor : Scene → (k : ℕ) → List NeededSecret → (parts : Tree) → Type 0
AreSecretPairsFor s k [] Empty = Unit {0}
AreSecretPairsFor s k (n ∷ ns) (Node h part more) = IsSecretPair s k n part × AreSecretPairsFor s k ns more
AreSecretPairsFor s k ns parts = ⊥

-- the parts of a certificate of secrecy for many sessions, in the second form
abbrev pub AreSecretPairs : Scene → (x : ℕ) → (parts : Tree) → Type 0
AreSecretPairs s x parts = AreSecretPairsFor s (raise_of s parts) (needed_secrets s (raise_of s parts) x) parts
