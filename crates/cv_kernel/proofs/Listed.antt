-- The places that a step lists, one by one.
use Rattle.std.proofs.Common.{◌≡◌, ℕ, ◌<◌, ◌++◌, Bool, true, false, ◌&&◌, ◌||◌, nat_lt, List, [], ◌∷◌, append-nil, append_assoc, arith, refl, sym, ap, ◌∙◌}
use Rattle.std.proofs.lemmas.Bool.Decides.{nat_tests}
use Rattle.std.specs.List.{list_all}
use Rattle.cv_syntax_trees.specs.declared.head.Head.{Head}
use Rattle.cv_syntax_trees.specs.Tree.{Tree, Empty, Node}
use Rattle.cv_kernel.specs.Places.{has_long, listed_numbers, number_item}

pub numbers_link : (P Q goal : List ℕ) (t : Tree) (h : Head) (item more : Tree) → t ≡ Node h item more → Q ≡ P ++ number_item item → P ++ listed_numbers t ≡ goal → Q ++ listed_numbers more ≡ goal
unfolding listed_numbers
numbers_link P Q goal t h item more e f g =
    ap (λ q. q ++ listed_numbers more) f ∙ (append_assoc P (number_item item) (listed_numbers more) ∙ (ap (λ u. P ++ listed_numbers u) (sym e) ∙ g))

pub numbers_end : (P goal : List ℕ) (t : Tree) → t ≡ Empty → P ++ listed_numbers t ≡ goal → P ≡ goal
unfolding listed_numbers
numbers_end P goal t e g = sym (append-nil P) ∙ (ap (λ u. P ++ listed_numbers u) (sym e) ∙ g)

long_behind : (P R : List ℕ) → has_long R ≡ true → has_long (P ++ R) ≡ true
long_behind [] R e = e
long_behind (p ∷ P) R e = or_true (nat_lt 4294967295 p) (has_long (P ++ R)) (long_behind P R e) where
  or_true : (a b : Bool) → b ≡ true → (a || b) ≡ true
  or_true true b e = refl
  or_true false b e = e

-- a number of more than 32 bits
pub long_item : (P goal : List ℕ) (t : Tree) (h : Head) (item more : Tree) (v : ℕ) → t ≡ Node h item more → number_item item ≡ v ∷ [] → 4294967295 < v → P ++ listed_numbers t ≡ goal → has_long goal ≡ true
unfolding listed_numbers
long_item P goal t h item more v e f l g =
    let long : nat_lt 4294967295 v ≡ true = grind (arith, nat_tests) in
    ap has_long (sym g) ∙ (ap (λ u. has_long (P ++ u)) (ap listed_numbers e ∙ ap (λ i. i ++ listed_numbers more) f) ∙ long_behind P (v ∷ listed_numbers more) (ap (λ b. b || has_long (listed_numbers more)) long))

-- places of which one has more than 32 bits are not all there

ends : (a b : Bool) → b ≡ false → (a && b) ≡ false
ends true b h = h
ends false b h = refl

pub not_all_there : (there : ℕ → Bool) → ((p : ℕ) → nat_lt 4294967295 p ≡ true → there p ≡ false) → (ps : List ℕ) → has_long ps ≡ true → list_all there ps ≡ false
not_all_there there f [] e = absurd (cc)
not_all_there there f (p ∷ ps) e = by_first (nat_lt 4294967295 p) refl (not_all_there there f ps) where
  by_first : (b : Bool) → nat_lt 4294967295 p ≡ b → (has_long ps ≡ true → list_all there ps ≡ false) → list_all there (p ∷ ps) ≡ false
  by_first true g h = ap (λ a. a && list_all there ps) (f p g)
  by_first false g h = ends (there p) (list_all there ps) (h (sym (ap (λ b. b || has_long ps) g) ∙ e))
