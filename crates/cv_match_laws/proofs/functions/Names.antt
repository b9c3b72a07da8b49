-- The names of a function in the order of their bindings, and the newest first.
use Rattle.std.proofs.Common.{◌≡◌, ℕ, ◌+◌, ◌<◌, Bool, true, false, cond, ◌&&◌, ◌||◌, not, ◌==◌, List, [], ◌∷◌, ◌++◌, map, ◌⊎◌, inl, inr, refl, ap, ap₂, ◌∙◌, arith}
use Rattle.std.proofs.lemmas.Bool.{both_ways, and_parts, not-true, or_left, or_parts, or_right}
use Rattle.std.proofs.lemmas.List.{map-append}
use Rattle.std.specs.List.{AllByRecursion, IsDistinct, list_any}
use Rattle.std.specs.Prelude.{nat_eq}
use mathlib.Core.List.{reverse_aux}
use Rattle.cv_syntax_trees.specs.declared.head.Head.TheVariants.{Binder, Leaf}
use Rattle.cv_syntax.specs.NameSets.{is_one_of}
use Rattle.cv_syntax_trees.specs.Tree.{Tree, Empty, Node, bound_names, first, second}
use Rattle.cv_meaning.specs.Correspondences.{typed_names}
use Rattle.cv_meaning.specs.contexts.Groups.{function_of, key_of}
use Rattle.cv_group_rules.specs.Rules.{are_read, is_one_binder, reads, taken_names}
use Rattle.cv_scene.specs.Refusals.{uses}
use Rattle.cv_syntax_trees.proofs.lists.Tests.{differ_comm, or_cases}

abbrev pub firsts : List (ℕ × ℕ) → List ℕ
firsts xs = map (λ (x : ℕ × ℕ). x.0) xs

names_typed : (t : Tree) → firsts (typed_names t) ≡ bound_names t
names_typed Empty = refl
names_typed (Node (Binder x T) a b) = ap (λ xs. x ∷ xs) (names_typed b)
names_typed (Node h a b) = refl

key_named : (key : Tree) → is_one_binder key ≡ true → bound_names key ≡ (key_of (typed_names key)).0 ∷ []
key_named (Node (Binder u n) a Empty) e = refl
key_named t e = absurd (both_ways false refl e)

-- a function's names, as the rules have them
pub same_names : (key f : Tree) → is_one_binder key ≡ true → firsts (key_of (typed_names key) ∷ (function_of f).coins ++ (function_of f).arguments) ≡ taken_names key f
same_names key f e =
    ap (λ xs. (key_of (typed_names key)).0 ∷ xs)
    (map-append (λ (x : ℕ × ℕ). x.0) (typed_names (first (first f))) (typed_names (second (first f))) ∙ ap₂ ◌++◌ (names_typed (first (first f))) (names_typed (second (first f))))
    ∙ ap (λ xs. xs ++ (bound_names (first (first f)) ++ bound_names (second (first f)))) (let s : (key_of (typed_names key)).0 ∷ [] ≡ bound_names key = flipped (key_named key e) in s)
  where
    flipped : {A : Type 0} {a b : A} → a ≡ b → b ≡ a
    flipped e = cc

-- each name is read

reads_uses : (t : Tree) (x : ℕ) → reads t x ≡ true → 0 < uses x t
unfolding reads uses
reads_uses Empty x e = absurd (both_ways false refl e)
reads_uses (Node (Leaf y) a b) x e = go (y == x) e (reads_uses a x) (reads_uses b x)
  where
    go : (c : Bool) → (c || (reads a x || reads b x)) ≡ true → (reads a x ≡ true → 0 < uses x a) → (reads b x ≡ true → 0 < uses x b) → 0 < cond c 1 0 + (uses x a + uses x b)
    go true f i j = omega arith
    go false f i j = elim (or_cases (reads a x) (reads b x) f) [ inl k ↦ (let l = i k in omega arith) | inr k ↦ (let l = j k in omega arith) ]
reads_uses (Node h a b) x e = elim (or_cases (reads a x) (reads b x) e) [ inl k ↦ (let l = reads_uses a x k in omega arith) | inr k ↦ (let l = reads_uses b x k in omega arith) ]

all_used : (body : Tree) (xs : List ℕ) → are_read (reads body) xs ≡ true → AllByRecursion (λ x. 0 < uses x body) xs
all_used body [] e = tt
all_used body (x ∷ xs) e =
    let p = and_parts (reads body x && not (is_one_of xs x)) (are_read (reads body) xs) e in
    (reads_uses body x (and_parts (reads body x) _ p.0).0, all_used body xs p.1)

all_reversed : (P : ℕ → Type 0) (xs A : List ℕ) → AllByRecursion P xs → AllByRecursion P A → AllByRecursion P (reverse_aux xs A)
all_reversed P [] A h k = k
all_reversed P (x ∷ xs) A h k = all_reversed P xs (x ∷ A) h.1 (h.0, k)

pub used_names : (body : Tree) (xs : List ℕ) → are_read (reads body) xs ≡ true → AllByRecursion (λ x. 0 < uses x body) (reverse_aux xs [])
used_names body xs e = all_reversed (λ x. 0 < uses x body) xs [] (all_used body xs e) tt

-- no two are the same

none_apart : (x : ℕ) (xs : List ℕ) → is_one_of xs x ≡ false → AllByRecursion (λ z. nat_eq x z ≡ false) xs
none_apart x [] e = tt
none_apart x (z ∷ xs) e = let p = or_parts (z == x) (is_one_of xs x) e in (differ_comm z x p.0, none_apart x xs p.1)

heads_apart : (x : ℕ) (xs A : List ℕ) → AllByRecursion (λ y. AllByRecursion (λ z. nat_eq y z ≡ false) (x ∷ xs)) A → AllByRecursion (λ y. nat_eq x y ≡ false) A
heads_apart x xs [] h = tt
heads_apart x xs (y ∷ A) h = (differ_comm y x h.0.0, heads_apart x xs A h.1)

tails_apart : (x : ℕ) (xs A : List ℕ) → AllByRecursion (λ y. AllByRecursion (λ z. nat_eq y z ≡ false) (x ∷ xs)) A → AllByRecursion (λ y. AllByRecursion (λ z. nat_eq y z ≡ false) xs) A
tails_apart x xs [] h = tt
tails_apart x xs (y ∷ A) h = (h.0.1, tails_apart x xs A h.1)

distinct_reversed : (read : ℕ → Bool) (xs A : List ℕ) → are_read read xs ≡ true → IsDistinct nat_eq A → AllByRecursion (λ y. AllByRecursion (λ z. nat_eq y z ≡ false) xs) A → IsDistinct nat_eq (reverse_aux xs A)
unfolding IsDistinct
distinct_reversed read [] A e d h = d
distinct_reversed read (x ∷ xs) A e d h =
    let p = and_parts (read x && not (is_one_of xs x)) (are_read read xs) e in
    distinct_reversed read xs (x ∷ A) p.1 (heads_apart x xs A h, d) (none_apart x xs (not-true (is_one_of xs x) (and_parts (read x) _ p.0).1), tails_apart x xs A h)

pub distinct_names : (read : ℕ → Bool) (xs : List ℕ) → are_read read xs ≡ true → IsDistinct nat_eq (reverse_aux xs [])
unfolding IsDistinct
distinct_names read xs e = distinct_reversed read xs [] e tt tt

-- a name of these is one in the other order

any_reversed : (p : ℕ → Bool) (xs A : List ℕ) → (list_any p xs ≡ true) ⊎ (list_any p A ≡ true) → list_any p (reverse_aux xs A) ≡ true
any_reversed p [] A (inl e) = absurd (both_ways false refl e)
any_reversed p [] A (inr e) = e
any_reversed p (x ∷ xs) A (inl e) = elim (or_cases (p x) (list_any p xs) e) [ inl f ↦ any_reversed p xs (x ∷ A) (inr (or_left (p x) (list_any p A) f)) | inr f ↦ any_reversed p xs (x ∷ A) (inl f) ]
any_reversed p (x ∷ xs) A (inr e) = any_reversed p xs (x ∷ A) (inr (or_right (p x) (list_any p A) e))

pub one_reversed : (x : ℕ) (xs : List ℕ) → is_one_of xs x ≡ true → is_one_of (reverse_aux xs []) x ≡ true
one_reversed x xs e = any_reversed (λ y. y == x) xs [] (inl e)

any_left : (p : ℕ → Bool) (xs ys : List ℕ) → list_any p xs ≡ true → list_any p (xs ++ ys) ≡ true
any_left p [] ys e = absurd (both_ways false refl e)
any_left p (x ∷ xs) ys e = elim (or_cases (p x) (list_any p xs) e) [ inl f ↦ or_left (p x) (list_any p (xs ++ ys)) f | inr f ↦ or_right (p x) (list_any p (xs ++ ys)) (any_left p xs ys f) ]

any_right : (p : ℕ → Bool) (xs ys : List ℕ) → list_any p ys ≡ true → list_any p (xs ++ ys) ≡ true
any_right p [] ys e = e
any_right p (x ∷ xs) ys e = or_right (p x) (list_any p (xs ++ ys)) (any_right p xs ys e)

pub one_taken : (x : ℕ) (key f : Tree) → (is_one_of (bound_names key) x ≡ true) ⊎ ((is_one_of (bound_names (first (first f))) x || is_one_of (bound_names (second (first f))) x) ≡ true) → is_one_of (taken_names key f) x ≡ true
one_taken x key f (inl e) = any_left (λ y. y == x) (bound_names key) _ e
one_taken x key f (inr e) =
    any_right (λ y. y == x) (bound_names key) (bound_names (first (first f)) ++ bound_names (second (first f)))
    (elim (or_cases (is_one_of (bound_names (first (first f))) x) _ e) [
      | inl g ↦ any_left (λ y. y == x) (bound_names (first (first f))) (bound_names (second (first f))) g
      | inr g ↦ any_right (λ y. y == x) (bound_names (first (first f))) (bound_names (second (first f))) g
    ])
