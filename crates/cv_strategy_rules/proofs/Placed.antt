-- Terms of a game, place by place, as they are listed and as the rules ask for them.
use Rattle.std.proofs.Common.{◌≡◌, ℕ, ◌+◌, ◌-◌, ◌<◌, Bool, true, false, cond, List, [], ◌∷◌, Option, Some, None, refl, sym, ap, ap₂, subst, ◌∙◌, arith, nat_lt, le-ltb, lt-ltb}
use Rattle.std.specs.Prelude.{◌&&◌, ◌||◌, if◌then◌else◌, filter, is_some}
use Rattle.std.specs.List.{AllByRecursion}
use Rattle.cv_syntax_trees.specs.declared.head.Head.{Head}
use Rattle.cv_syntax_trees.specs.declared.head.Head.TheVariants.{Eq, Leaf, Read}
use Rattle.cv_syntax_trees.specs.Head.{weight}
use Rattle.cv_syntax_trees.specs.Tree.{Tree, Empty, Node, first_place, second_place, size}
use Rattle.cv_scope_rules.specs.Above.{first_standing, second_standing}
use Rattle.cv_scope_rules.specs.Context.{Context, first_position, nothing_known, second_position}
use Rattle.cv_scope_rules.specs.Phrases.{Inputs, Nil, Phrase, Term, parts}
use Rattle.cv_scope_rules.specs.declared.position.Position.{Position}
use Rattle.cv_scope_rules.specs.declared.position.Position.TheVariants.{Anywhere}
use Rattle.cv_scene.specs.Scenes.{or_empty, part_at}
use Rattle.cv_steps.specs.Rewriting as rewriting
use Rattle.cv_steps.specs.Rewriting.{by_parts, has_term_at, parts_of}
use Rattle.cv_rule_birthday.specs.Comparing.{is_comparison}
use Rattle.cv_rule_birthday.specs.guess.Guessing.{compares, reads}
use Rattle.cv_rule_fresh.specs.collisions.Equalities.{Equality, equality_at, sides_of}
use Rattle.cv_settling_rules.specs.Comparisons.{compares_both, compares_one, is_equality, is_read, places_of}
use Rattle.cv_settling_rules.specs.Spots.{IsSpot, Spot, is_term, or_nil, parts_below, places_from, spots, spots_in}
use Rattle.cv_settling_rules.proofs.Listing.{all-append, all_by, all_of_node, are_spots, places, places-spots_in, weight_le}
use Rattle.cv_strategy_rules.specs.Places.{compared_places, equality_places, guessed_places}

-- phrases

below_by : Head → Option (Phrase × Phrase) → Phrase × Phrase
below_by (Read x) o = (Nil, Nil)
below_by h o = or_nil o

same_by : (h : Head) (o : Option (Phrase × Phrase)) → below_by h o ≡ by_parts h o
unfolding below_by
same_by (Read x) o = refl
same_by h None = refl
same_by h (Some q) = refl

same_below : (σ : Phrase) (h : Head) → parts_below σ h ≡ below_by h (parts σ h)
unfolding below_by
same_below σ (Read x) = refl
same_below σ h = refl

pub same_parts : (σ : Phrase) (h : Head) → parts_below σ h ≡ parts_of σ h
same_parts σ h = same_below σ h ∙ same_by h (parts σ h)

pub same_term : (σ : Phrase) → rewriting.is_term σ ≡ is_term σ
same_term Term = refl
same_term σ = refl

-- a term stands at the place of a node of a tree, which stands at a place itself, or none does
record IsTermIn (σ : Phrase) (place : ℕ) (t : Tree) (v : Spot) : Type 0 where
  far : ℕ
  at : place + far ≡ v.place
  within : far < size t
  term : has_term_at σ t far ≡ is_term v.phrase

in_node : (σ : Phrase) (p : ℕ) (h : Head) (a b : Tree) (v : Spot) → weight h ≡ 1 → v.place ≡ p → v.phrase ≡ σ → IsTermIn σ p (Node h a b) v
unfolding size has_term_at
in_node σ p h a b v e d k =
    record {
      far = 0;
      at = omega arith;
      within = omega arith;
      term = ap (λ c. cond c (rewriting.is_term σ) (cond (nat_lt 0 (weight h + size a)) (has_term_at (parts_of σ h).0 a (0 - weight h)) (has_term_at (parts_of σ h).1 b (0 - (weight h + size a))))) (lt-ltb 0 (weight h) (omega arith)) ∙ (same_term σ ∙ ap is_term (sym k));
    }

in_first : (σ : Phrase) (p : ℕ) (h : Head) (a b : Tree) (v : Spot) → IsTermIn (parts_below σ h).0 (first_place p h) a v → IsTermIn σ p (Node h a b) v
unfolding size has_term_at
in_first σ p h a b v i =
    let l : i.far < size a = i.within in
    let e : p + weight h + i.far ≡ v.place = i.at in
    let d : weight h + i.far - weight h ≡ i.far = omega arith in
    record {
      far = weight h + i.far;
      at = omega arith;
      within = omega arith;
      term = ap₂ (λ c d. cond c (rewriting.is_term σ) (cond d (has_term_at (parts_of σ h).0 a (weight h + i.far - weight h)) (has_term_at (parts_of σ h).1 b (weight h + i.far - (weight h + size a))))) (le-ltb (weight h + i.far) (weight h) (omega arith)) (lt-ltb (weight h + i.far) (weight h + size a) (omega arith)) ∙ (ap (has_term_at (parts_of σ h).0 a) d ∙ (ap (λ (q : Phrase × Phrase). has_term_at q.0 a i.far) (sym (same_parts σ h)) ∙ i.term));
    }

in_second : (σ : Phrase) (p : ℕ) (h : Head) (a b : Tree) (v : Spot) → IsTermIn (parts_below σ h).1 (second_place p h a) b v → IsTermIn σ p (Node h a b) v
unfolding size has_term_at
in_second σ p h a b v i =
    let l : i.far < size b = i.within in
    let e : p + weight h + size a + i.far ≡ v.place = i.at in
    let d : weight h + size a + i.far - (weight h + size a) ≡ i.far = omega arith in
    record {
      far = weight h + size a + i.far;
      at = omega arith;
      within = omega arith;
      term = ap₂ (λ c d. cond c (rewriting.is_term σ) (cond d (has_term_at (parts_of σ h).0 a (weight h + size a + i.far - weight h)) (has_term_at (parts_of σ h).1 b (weight h + size a + i.far - (weight h + size a))))) (le-ltb (weight h + size a + i.far) (weight h) (omega arith)) (le-ltb (weight h + size a + i.far) (weight h + size a) (omega arith)) ∙ (ap (has_term_at (parts_of σ h).1 b) d ∙ (ap (λ (q : Phrase × Phrase). has_term_at q.1 b i.far) (sym (same_parts σ h)) ∙ i.term));
    }

are_in : (σ : Phrase) (w : Position) (Γ : Context) (p : ℕ) (t : Tree) → AllByRecursion (IsTermIn σ p t) (spots_in σ w Γ p t)
unfolding spots_in
are_in σ w Γ p Empty = tt
are_in σ w Γ p (Node h a b) =
    let v : Spot = record { place = p; phrase = σ; above = Γ; tree = Node h a b } in
    all-append (IsTermIn σ p (Node h a b)) _ _ (all_of_node _ (weight h) (weight_le h) v (λ e. in_node σ p h a b v e refl refl))
    (all-append (IsTermIn σ p (Node h a b)) _ _
    (all_by _ _ (in_first σ p h a b) _ (are_in (parts_below σ h).0 (first_position w h) (first_standing w h Γ) (first_place p h) a))
    (all_by _ _ (in_second σ p h a b) _ (are_in (parts_below σ h).1 (second_position w h) (second_standing w h a Γ) (second_place p h a) b)))

-- the tests say the same

same_read : (x : ℕ) (m : Tree) → is_read x m ≡ reads x m
same_read x Empty = refl
same_read x (Node (Leaf y) a b) = refl
same_read x (Node (Read y) a b) = refl
same_read x (Node h a b) = refl

same_both : (x : ℕ) (t : Tree) → compares_both x t ≡ is_comparison x t
same_both x (Node Eq m n) = refl
same_both x t = refl

pub same_one : (x : ℕ) (t : Tree) → compares_one x t ≡ compares x t
same_one x (Node Eq m n) = ap₂ ◌||◌ (same_read x m) (same_read x n)
same_one x t = refl

same_equality : (t : Tree) → is_equality t ≡ is_some (sides_of t)
same_equality (Node Eq m n) = refl
same_equality t = refl

-- a test of the node at a place, by its spot

all_both : (P Q : Spot → Type 0) (vs : List Spot) → AllByRecursion P vs → AllByRecursion Q vs → AllByRecursion (λ v. P v × Q v) vs
all_both P Q [] p q = tt
all_both P Q (v ∷ vs) p q = ((p.0, q.0), all_both P Q vs p.1 q.1)

place_of : (b : Bool) (v : Spot) (us : List Spot) → places (cond b (v ∷ us) us) ≡ cond b (v.place ∷ places us) (places us)
place_of true v us = refl
place_of false v us = refl

places-filter : (f : Spot → Bool) (g : ℕ → Bool) (vs : List Spot) → AllByRecursion (λ v. f v ≡ g v.place) vs → places (filter f vs) ≡ filter g (places vs)
places-filter f g [] e = refl
places-filter f g (v ∷ vs) e =
    place_of (f v) v (filter f vs) ∙ ap₂ (λ c ps. cond c (v.place ∷ ps) ps) e.0 (places-filter f g vs e.1)

same_test : (f h : Tree → Bool) → ((t : Tree) → f t ≡ h t) → (game : Tree) (v : Spot) → IsSpot game v × IsTermIn Inputs 0 game v → (is_term v.phrase && f v.tree) ≡ (has_term_at Inputs game v.place && h (part_at game v.place))
same_test f h s game v i =
    let e : i.1.far ≡ v.place = let d : 0 + i.1.far ≡ v.place = i.1.at in omega arith in
    ap₂ ◌&&◌ (sym (subst (λ k. has_term_at Inputs game k ≡ is_term v.phrase) e i.1.term)) (s v.tree ∙ ap h (sym (ap or_empty i.0.tree)))

listed : (f : Tree → Bool) (g : ℕ → Bool) (game : Tree) → ((v : Spot) → IsSpot game v × IsTermIn Inputs 0 game v → (is_term v.phrase && f v.tree) ≡ g v.place) → places_of f game ≡ filter g (places_from 0 (size game))
listed f g game s =
    places-filter (λ (v : Spot). is_term v.phrase && f v.tree) g (spots game)
    (all_by _ _ s (spots game) (all_both (IsSpot game) (IsTermIn Inputs 0 game) (spots game) (are_spots game) (are_in Inputs Anywhere nothing_known 0 game)))
    ∙ ap (filter g) (places-spots_in Inputs Anywhere nothing_known 0 game)

pub compared_are : (game : Tree) (x : ℕ) → places_of (compares_both x) game ≡ compared_places x game
compared_are game x = listed (compares_both x) _ game (same_test (compares_both x) (is_comparison x) (same_both x) game)

pub guessed_are : (game : Tree) (x : ℕ) → places_of (compares_one x) game ≡ guessed_places x game
guessed_are game x = listed (compares_one x) _ game (same_test (compares_one x) (compares x) (same_one x) game)

is_some_if : (b : Bool) (t : Tree) → (b && is_some (sides_of t)) ≡ is_some (if◌then◌else◌ {A = Option Equality} b (sides_of t) None)
is_some_if true t = refl
is_some_if false t = refl

pub equalities_are : (game : Tree) → places_of is_equality game ≡ equality_places game
equalities_are game =
    listed is_equality (λ p. is_some (equality_at game p)) game
    (λ v i. same_test is_equality (λ t. is_some (sides_of t)) same_equality game v i ∙ is_some_if (has_term_at Inputs game v.place) (part_at game v.place))
