-- The nodes of a game, place by place.
use Rattle.std.proofs.Common.{◌≡◌, ℕ, zero, suc, ◌+◌, ◌-◌, ◌<◌, ◌≤◌, cond, List, [], ◌∷◌, ◌++◌, Some, refl, sym, ap, ap₂, subst, ◌∙◌, arith, nat_lt, le-ltb, lt-ltb}
use Rattle.std.specs.Prelude.{◌==◌, if◌then◌else◌, map}
use Rattle.std.specs.List.{AllByRecursion}
use Rattle.cv_syntax_trees.specs.declared.head.Head.{Head}
use Rattle.cv_syntax_trees.specs.declared.head.Head.TheVariants.{Cons}
use Rattle.cv_syntax_trees.specs.Head.{weight}
use Rattle.cv_syntax_trees.specs.Tree.{Tree, Empty, Node, first_place, second_place, size, subtree}
use Rattle.cv_scope_rules.specs.Above.{first_standing, second_standing, standing_at}
use Rattle.cv_scope_rules.specs.Context.{Context, first_position, nothing_known, second_position}
use Rattle.cv_scope_rules.specs.Phrases.{Inputs, Phrase}
use Rattle.cv_scope_rules.specs.declared.position.Position.{Position}
use Rattle.cv_scope_rules.specs.declared.position.Position.TheVariants.{Anywhere}
use Rattle.cv_settling_rules.specs.Spots.{IsSpot, Spot, parts_below, places_from, spots, spots_in}

pub weight_le : (h : Head) → weight h ≤ 1
weight_le Cons = omega arith
weight_le h = omega arith

-- places

abbrev pub places : List Spot → List ℕ
places vs = map (λ (v : Spot). v.place) vs

places-append : (us vs : List Spot) → places (us ++ vs) ≡ places us ++ places vs
places-append [] vs = refl
places-append (u ∷ us) vs = ap (λ ps. u.place ∷ ps) (places-append us vs)

places_from-append : (p m n : ℕ) → places_from p (m + n) ≡ places_from p m ++ places_from (p + m) n
places_from-append p zero n =
    let e : 0 + n ≡ n = omega arith in
    let f : p ≡ p + 0 = omega arith in
    ap (places_from p) e ∙ ap (λ q. places_from q n) f
places_from-append p (suc m) n =
    let e : suc m + n ≡ suc (m + n) = omega arith in
    let f : suc p + m ≡ p + suc m = omega arith in
    ap (places_from p) e ∙ ap (λ ps. p ∷ ps) (places_from-append (suc p) m n ∙ ap (λ q. places_from (suc p) m ++ places_from q n) f)

append_assoc : (us vs ws : List ℕ) → (us ++ vs) ++ ws ≡ us ++ (vs ++ ws)
append_assoc [] vs ws = refl
append_assoc (u ∷ us) vs ws = ap (λ xs. u ∷ xs) (append_assoc us vs ws)

of_parts : (p k m n : ℕ) → places_from p k ++ (places_from (p + k) m ++ places_from (p + k + m) n) ≡ places_from p (k + m + n)
of_parts p k m n =
    let e : p + (k + m) ≡ p + k + m = omega arith in
    sym (places_from-append p (k + m) n
    ∙ (ap (λ q. places_from p (k + m) ++ places_from q n) e
    ∙ (ap (λ ps. ps ++ places_from (p + k + m) n) (places_from-append p k m)
    ∙ append_assoc (places_from p k) (places_from (p + k) m) (places_from (p + k + m) n))))

of_node : (n : ℕ) → n ≤ 1 → (v : Spot) → places (if n == 1 then v ∷ [] else []) ≡ places_from v.place n
of_node zero l v = refl
of_node (suc zero) l v = refl
of_node (suc (suc n)) l v = absurd (omega arith)

pub places-spots_in : (σ : Phrase) (w : Position) (Γ : Context) (p : ℕ) (t : Tree) → places (spots_in σ w Γ p t) ≡ places_from p (size t)
unfolding spots_in size
places-spots_in σ w Γ p Empty = refl
places-spots_in σ w Γ p (Node h a b) =
    places-append (if weight h == 1 then record { place = p; phrase = σ; above = Γ; tree = Node h a b } ∷ [] else []) _
    ∙ (ap₂ ◌++◌ (of_node (weight h) (weight_le h) (record { place = p; phrase = σ; above = Γ; tree = Node h a b }))
    (places-append (spots_in (parts_below σ h).0 (first_position w h) (first_standing w h Γ) (first_place p h) a) _
    ∙ ap₂ ◌++◌ (places-spots_in (parts_below σ h).0 (first_position w h) (first_standing w h Γ) (first_place p h) a)
    (places-spots_in (parts_below σ h).1 (second_position w h) (second_standing w h a Γ) (second_place p h a) b))
    ∙ of_parts p (weight h) (size a) (size b))

-- nodes

pub all-append : (P : Spot → Type 0) (us vs : List Spot) → AllByRecursion P us → AllByRecursion P vs → AllByRecursion P (us ++ vs)
all-append P [] vs q r = r
all-append P (u ∷ us) vs q r = (q.0, all-append P us vs q.1 r)

pub all_by : (P Q : Spot → Type 0) → ((v : Spot) → P v → Q v) → (vs : List Spot) → AllByRecursion P vs → AllByRecursion Q vs
all_by P Q f [] q = tt
all_by P Q f (v ∷ vs) q = (f v q.0, all_by P Q f vs q.1)

-- the node stands in a tree that stands at a place
record IsIn (w : Position) (Γ : Context) (place : ℕ) (t : Tree) (v : Spot) : Type 0 where
  far : ℕ
  at : place + far ≡ v.place
  within : far < size t
  tree : subtree t far ≡ Some v.tree
  above : standing_at w Γ t far ≡ Some v.above

in_node : (w : Position) (Γ : Context) (p : ℕ) (h : Head) (a b : Tree) (v : Spot) → weight h ≡ 1 → v.place ≡ p → v.tree ≡ Node h a b → v.above ≡ Γ → IsIn w Γ p (Node h a b) v
unfolding size subtree standing_at
in_node w Γ p h a b v e d t k =
    record {
      far = 0;
      at = omega arith;
      within = omega arith;
      tree = ap (λ c. cond c (Some (Node h a b)) (cond (nat_lt 0 (weight h + size a)) (subtree a (0 - weight h)) (subtree b (0 - (weight h + size a))))) (lt-ltb 0 (weight h) (omega arith)) ∙ ap Some (sym t);
      above = ap (λ c. cond c (Some Γ) (cond (nat_lt 0 (weight h + size a)) (standing_at (first_position w h) (first_standing w h Γ) a (0 - weight h)) (standing_at (second_position w h) (second_standing w h a Γ) b (0 - (weight h + size a))))) (lt-ltb 0 (weight h) (omega arith)) ∙ ap Some (sym k);
    }

in_first : (w : Position) (Γ : Context) (p : ℕ) (h : Head) (a b : Tree) (v : Spot) → IsIn (first_position w h) (first_standing w h Γ) (first_place p h) a v → IsIn w Γ p (Node h a b) v
unfolding size subtree standing_at
in_first w Γ p h a b v i =
    let l : i.far < size a = i.within in
    let e : p + weight h + i.far ≡ v.place = i.at in
    let d : weight h + i.far - weight h ≡ i.far = omega arith in
    record {
      far = weight h + i.far;
      at = omega arith;
      within = omega arith;
      tree = ap₂ (λ c d. cond c (Some (Node h a b)) (cond d (subtree a (weight h + i.far - weight h)) (subtree b (weight h + i.far - (weight h + size a))))) (le-ltb (weight h + i.far) (weight h) (omega arith)) (lt-ltb (weight h + i.far) (weight h + size a) (omega arith)) ∙ (ap (subtree a) d ∙ i.tree);
      above = ap₂ (λ c d. cond c (Some Γ) (cond d (standing_at (first_position w h) (first_standing w h Γ) a (weight h + i.far - weight h)) (standing_at (second_position w h) (second_standing w h a Γ) b (weight h + i.far - (weight h + size a))))) (le-ltb (weight h + i.far) (weight h) (omega arith)) (lt-ltb (weight h + i.far) (weight h + size a) (omega arith)) ∙ (ap (standing_at (first_position w h) (first_standing w h Γ) a) d ∙ i.above);
    }

in_second : (w : Position) (Γ : Context) (p : ℕ) (h : Head) (a b : Tree) (v : Spot) → IsIn (second_position w h) (second_standing w h a Γ) (second_place p h a) b v → IsIn w Γ p (Node h a b) v
unfolding size subtree standing_at
in_second w Γ p h a b v i =
    let l : i.far < size b = i.within in
    let e : p + weight h + size a + i.far ≡ v.place = i.at in
    let d : weight h + size a + i.far - (weight h + size a) ≡ i.far = omega arith in
    record {
      far = weight h + size a + i.far;
      at = omega arith;
      within = omega arith;
      tree = ap₂ (λ c d. cond c (Some (Node h a b)) (cond d (subtree a (weight h + size a + i.far - weight h)) (subtree b (weight h + size a + i.far - (weight h + size a))))) (le-ltb (weight h + size a + i.far) (weight h) (omega arith)) (le-ltb (weight h + size a + i.far) (weight h + size a) (omega arith)) ∙ (ap (subtree b) d ∙ i.tree);
      above = ap₂ (λ c d. cond c (Some Γ) (cond d (standing_at (first_position w h) (first_standing w h Γ) a (weight h + size a + i.far - weight h)) (standing_at (second_position w h) (second_standing w h a Γ) b (weight h + size a + i.far - (weight h + size a))))) (le-ltb (weight h + size a + i.far) (weight h) (omega arith)) (le-ltb (weight h + size a + i.far) (weight h + size a) (omega arith)) ∙ (ap (standing_at (second_position w h) (second_standing w h a Γ) b) d ∙ i.above);
    }

pub all_of_node : (P : Spot → Type 0) (n : ℕ) → n ≤ 1 → (v : Spot) → (n ≡ 1 → P v) → AllByRecursion P (if n == 1 then v ∷ [] else [])
all_of_node P zero l v f = tt
all_of_node P (suc zero) l v f = (f refl, tt)
all_of_node P (suc (suc n)) l v f = absurd (omega arith)

are_in : (σ : Phrase) (w : Position) (Γ : Context) (p : ℕ) (t : Tree) → AllByRecursion (IsIn w Γ p t) (spots_in σ w Γ p t)
unfolding spots_in
are_in σ w Γ p Empty = tt
are_in σ w Γ p (Node h a b) =
    let v : Spot = record { place = p; phrase = σ; above = Γ; tree = Node h a b } in
    all-append (IsIn w Γ p (Node h a b)) _ _ (all_of_node _ (weight h) (weight_le h) v (λ e. in_node w Γ p h a b v e refl refl refl))
    (all-append (IsIn w Γ p (Node h a b)) _ _
    (all_by _ _ (in_first w Γ p h a b) _ (are_in (parts_below σ h).0 (first_position w h) (first_standing w h Γ) (first_place p h) a))
    (all_by _ _ (in_second w Γ p h a b) _ (are_in (parts_below σ h).1 (second_position w h) (second_standing w h a Γ) (second_place p h a) b)))

is_spot : (game : Tree) (v : Spot) → IsIn Anywhere nothing_known 0 game v → IsSpot game v
is_spot game v i =
    let e : i.far ≡ v.place = let d : 0 + i.far ≡ v.place = i.at in omega arith in
    record { tree = subst (λ n. subtree game n ≡ Some v.tree) e i.tree; above = subst (λ n. standing_at Anywhere nothing_known game n ≡ Some v.above) e i.above }

pub are_spots : (game : Tree) → AllByRecursion (IsSpot game) (spots game)
are_spots game = all_by (IsIn Anywhere nothing_known 0 game) (IsSpot game) (is_spot game) _ (are_in Inputs Anywhere nothing_known 0 game)
