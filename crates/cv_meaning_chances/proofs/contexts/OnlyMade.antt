-- Where each branch of a find has a cell at its own index, only calls that were made are candidates.
use Rattle.std.proofs.Common.{◌≡◌, ℕ, suc, Bool, true, false, ◌||◌, List, [], ◌∷◌, is_some, flat_map, Some, refl, sym, ap, ◌∙◌, if◌then◌else◌}
use Rattle.std.specs.List.{AllByRecursion}
use Rattle.std.proofs.lemmas.Bool.{both_ways, and_parts}
use Rattle.cv_syntax_trees.specs.declared.head.Head.{Head}
use Rattle.cv_syntax_trees.specs.declared.head.Head.TheVariants.{Leaf, Read, Binder}
use Rattle.cv_syntax_trees.specs.Tree.{Tree, Empty, Node, first, second}
use Rattle.cv_meaning.specs.Side.{CallNumber}
use Rattle.cv_meaning.specs.Terms.{is_one}
use Rattle.cv_meaning.specs.Candidates.{tuples_up_to}
use Rattle.cv_meaning_laws.proofs.Lists.{each_flat_map}
use Rattle.cv_meaning.specs.contexts.Sites.{Site, sites_at, most_bounds, greatest_bound}
use Rattle.cv_meaning.specs.contexts.Frames.{Frame, IsCall, with_call, meaning_of}
use Rattle.cv_meaning.specs.contexts.BodyTerms.{call_meant, call_at, array_at, body_value}
use Rattle.cv_meaning.specs.contexts.Finds.{Oracles, Pick, has_bound, function_of_site, is_made, are_made, pick, picks_at, picks}
use Rattle.cv_meaning.specs.contexts.Made.{WasMade, is_index, has_cell_at, have_own_cells}
use Rattle.cv_syntax_trees.proofs.lists.Each.{AllByRecursion_append}

abbrev IsMade : Frame → Pick → Type 0
IsMade e c = WasMade e c.number

-- a cell at the index is one of the call
cell_made : (e : Frame) (u : ℕ) (n : CallNumber) (v : ℕ) (i : Tree) → is_index u i ≡ true → is_some (array_at (with_call e u n) v (call_at (with_call e u n) i)) ≡ true → WasMade e n
cell_made e u n v (Node (Leaf x) a b) h k =
    (v, sym (ap (λ q. is_some (array_at (with_call e u n) v (call_meant (if q then Some (IsCall n) else meaning_of e.names x)))) h) ∙ k)
cell_made e u n v i h k = absurd (both_ways _ refl h)

cells_made : (e : Frame) (u : ℕ) (n : CallNumber) (cells : Tree) → has_cell_at u cells ≡ true → are_made (with_call e u n) cells ≡ true → WasMade e n
cells_made e u n Empty h k = absurd (both_ways _ refl h)
cells_made e u n (Node j (Node (Read v) a b) more) h k = go (is_made (with_call e u n) (Node (Read v) a b)) refl (is_index u (first a)) refl h k (cells_made e u n more)
  where
    go : (q : Bool) → is_made (with_call e u n) (Node (Read v) a b) ≡ q → (r : Bool) → is_index u (first a) ≡ r → (r || has_cell_at u more) ≡ true →
        (elim q [ true ↦ are_made (with_call e u n) more | false ↦ false ]) ≡ true → (has_cell_at u more ≡ true → are_made (with_call e u n) more ≡ true → WasMade e n) → WasMade e n
    go true a_is true u_is h k rest = cell_made e u n v (first a) u_is a_is
    go true a_is false u_is h k rest = rest h k
    go false a_is r u_is h k rest = absurd (both_ways _ refl k)
cells_made e u n (Node j m more) h k = go (is_made (with_call e u n) m) k (cells_made e u n more h)
  where
    go : (q : Bool) → (elim q [ true ↦ are_made (with_call e u n) more | false ↦ false ]) ≡ true → (are_made (with_call e u n) more ≡ true → WasMade e n) → WasMade e n
    go true k rest = rest k
    go false k rest = absurd (both_ways _ refl k)

one_made : (o : Oracles) (e : Frame) (w : List ℕ) (s : Site) (k : ℕ) (g : Head) (branch more : Tree) → have_own_cells (Node g branch more) ≡ true → AllByRecursion (IsMade e) (pick o e w s k branch)
one_made o e w s k g (Node j (Node (Binder u n) a b) rest) more h = go (has_bound n (function_of_site o s)) (are_made (with_call e u found) (first rest)) refl
  where
    found : CallNumber
    found = record { tuple = w; site = s.number }

    if_true : (q : Bool) → WasMade e found → AllByRecursion (IsMade e) (if q then record { branch = k; number = found } ∷ [] else [])
    if_true true made = (made, tt)
    if_true false made = tt

    go : (p q : Bool) → are_made (with_call e u found) (first rest) ≡ q →
        AllByRecursion (IsMade e) (elim p [
          | true ↦ (if elim q [ true ↦ is_one (body_value o.setting (with_call e u found) (first (second rest))) | false ↦ false ] then record { branch = k; number = found } ∷ [] else [])
          | false ↦ []
        ])
    go true true assigned = if_true (is_one (body_value o.setting (with_call e u found) (first (second rest)))) (cells_made e u found (first rest) (and_parts (has_cell_at u (first rest)) _ h).0 assigned)
    go true false assigned = tt
    go false q assigned = tt
one_made o e w s k g _ more h = tt

rest_own : (h : Head) (branch more : Tree) → have_own_cells (Node h branch more) ≡ true → have_own_cells more ≡ true
rest_own h (Node k (Node (Binder u n) a b) rest) more g = (and_parts (has_cell_at u (first rest)) _ g).1
rest_own h _ more g = g

at_made : (o : Oracles) (e : Frame) (w : List ℕ) (s : Site) (k : ℕ) (branches : Tree) → have_own_cells branches ≡ true → AllByRecursion (IsMade e) (picks_at o e w s k branches)
unfolding picks_at
at_made o e w s k Empty h = tt
at_made o e w s k (Node j branch more) h =
    AllByRecursion_append (IsMade e) (pick o e w s k branch) (picks_at o e w s (suc k) more) (one_made o e w s k j branch more h) (at_made o e w s (suc k) more (rest_own j branch more h))

pub all_made : (o : Oracles) (e : Frame) (branches : Tree) → have_own_cells branches ≡ true → AllByRecursion (IsMade e) (picks o e branches)
unfolding picks
all_made o e branches h =
    each_flat_map (IsMade e) (λ w. flat_map (λ (s : Site). picks_at o e w s 0 branches) (sites_at o.sites w)) (tuples_up_to (most_bounds o.sites) (greatest_bound o.sites))
    (λ w. each_flat_map (IsMade e) (λ (s : Site). picks_at o e w s 0 branches) (sites_at o.sites w) (λ s. at_made o e w s 0 branches h))
