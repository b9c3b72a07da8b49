-- What a right function binds is none of the names that its side doesn't bind.
use Rattle.std.proofs.Common.{◌≡◌, ℕ, zero, suc, Bool, true, false, not, ◌&&◌, ◌==◌, List, [], ◌∷◌, ◌++◌, map, slice_get, Option, Some, None, refl, ap, subst, ◌∙◌, eqb-true}
use Rattle.std.proofs.lemmas.Bool.{and_parts, both_ways, not-true, or_from}
use Rattle.std.proofs.lemmas.List.Folds.{list_any-append}
use Rattle.std.specs.List.{AllByRecursion, list_any}
use Rattle.cv_syntax_trees.specs.declared.head.Head.{Head}
use Rattle.cv_syntax_trees.specs.declared.head.Head.TheVariants.{Binder, Let, New}
use Rattle.cv_syntax_trees.specs.Tree.{Tree, Empty, Node, first, second}
use Rattle.cv_meaning.specs.Correspondences.{typed_names}
use Rattle.cv_meaning.specs.contexts.Groups.{Function, Group, Right, function_at, functions_of, side_group}
use Rattle.cv_meaning.specs.contexts.Sides.{Context}
use Rattle.cv_scope_rules.specs.Phrases.{binds_none, head_binds_none}
use Rattle.cv_meaning.specs.contexts.Inlined.{is_own}
use Rattle.cv_inline.specs.NextGame.{Calling, call_of, calling, callings_from, callings_of, names_assigned}
use Rattle.cv_syntax_trees.proofs.lists.Options.{AllByRecursion_slice_get}
use Rattle.cv_syntax_trees.proofs.lists.Each.{AllByRecursion_append}

module _ (barred : ℕ → Bool) (x : ℕ) (holds : barred x ≡ true) where
  abbrev Lacks : List ℕ → Type 0
  Lacks ys = list_any (λ y. y == x) ys ≡ false

  other : (y : ℕ) → not (barred y) ≡ true → (y == x) ≡ false
  other y e = go (y == x) refl
    where
      go : (b : Bool) → (y == x) ≡ b → b ≡ false
      go false i = refl
      go true i = absurd (both_ways (barred y) (not-true (barred y) e) (ap barred (eqb-true y x i) ∙ holds))

  both_lack : (ys zs : List ℕ) → Lacks ys → Lacks zs → Lacks (ys ++ zs)
  both_lack ys zs e f = list_any-append (λ y. y == x) ys zs ∙ or_from (list_any (λ y. y == x) ys) (list_any (λ y. y == x) zs) e f

  first_free : (h : Head) (a b : Tree) → binds_none barred (Node h a b) ≡ true → binds_none barred a ≡ true
  unfolding binds_none
  first_free h a b e = (and_parts (binds_none barred a) (binds_none barred b) (and_parts (head_binds_none barred h) (binds_none barred a && binds_none barred b) e).1).0

  second_free : (h : Head) (a b : Tree) → binds_none barred (Node h a b) ≡ true → binds_none barred b ≡ true
  unfolding binds_none
  second_free h a b e = (and_parts (binds_none barred a) (binds_none barred b) (and_parts (head_binds_none barred h) (binds_none barred a && binds_none barred b) e).1).1

  head_free : (h : Head) (a b : Tree) → binds_none barred (Node h a b) ≡ true → head_binds_none barred h ≡ true
  unfolding binds_none
  head_free h a b e = (and_parts (head_binds_none barred h) (binds_none barred a && binds_none barred b) e).0

  assigned : (t : Tree) → binds_none barred t ≡ true → Lacks (names_assigned t)
  unfolding names_assigned
  assigned Empty e = refl
  assigned (Node (New z T) a b) e = or_from (z == x) (list_any (λ y. y == x) (names_assigned b)) (other z (head_free (New z T) a b e)) (assigned b (second_free (New z T) a b e))
  assigned (Node (Let z T) a b) e = or_from (z == x) (list_any (λ y. y == x) (names_assigned b)) (other z (head_free (Let z T) a b e)) (assigned b (second_free (Let z T) a b e))
  assigned (Node h a b) e = both_lack (names_assigned a) (names_assigned b) (assigned a (first_free h a b e)) (assigned b (second_free h a b e))

  taken : (t : Tree) → binds_none barred t ≡ true → Lacks (map (λ (y : ℕ × ℕ). y.0) (typed_names t))
  taken Empty e = refl
  taken (Node (Binder z T) a b) e = or_from (z == x) (list_any (λ y. y == x) (map (λ (y : ℕ × ℕ). y.0) (typed_names b))) (other z (head_free (Binder z T) a b e)) (taken b (second_free (Binder z T) a b e))
  taken (Node h a b) e = refl

  -- the names that a function binds
  abbrev pub IsWithout : Function → Type 0
  IsWithout f = Lacks (map (λ (y : ℕ × ℕ). y.0) f.arguments ++ names_assigned f.body)

  first_child : (t : Tree) → binds_none barred t ≡ true → binds_none barred (first t) ≡ true
  first_child Empty e = e
  first_child (Node h a b) e = first_free h a b e

  second_child : (t : Tree) → binds_none barred t ≡ true → binds_none barred (second t) ≡ true
  second_child Empty e = e
  second_child (Node h a b) e = second_free h a b e

  functions_lack : (t : Tree) → binds_none barred t ≡ true → AllByRecursion IsWithout (functions_of t)
  functions_lack Empty e = tt
  functions_lack (Node h f more) e =
      let i = first_free h f more e in (
        both_lack (map (λ (y : ℕ × ℕ). y.0) (typed_names (second (first f)))) (names_assigned (second f)) (taken (second (first f)) (second_child (first f) (first_child f i))) (assigned (second f) (second_child f i)),
        functions_lack more (second_free h f more e),
      )

  module _ (g : Group) (all : AllByRecursion IsWithout g.functions) where
    abbrev HasNot : Calling → Type 0
    HasNot k = is_own k.caller x ≡ false

    one_calling : (l : ℕ) (o : Option Function) (c : Option (List (ℕ × ℕ) × Tree)) → ((f : Function) → o ≡ Some f → IsWithout f) → AllByRecursion HasNot (calling l o c)
    one_calling l None c k = tt
    one_calling l (Some f) None k = tt
    one_calling l (Some f) (Some c) k = (k f refl, tt)

    all_callings : (context : Tree) (l : ℕ) (fs : List ℕ) → AllByRecursion HasNot (callings_from g context l fs)
    unfolding callings_from
    all_callings context l [] = tt
    all_callings context l (f ∷ fs) = AllByRecursion_append HasNot (calling l (function_at g f) (call_of [] l context)) (callings_from g context (suc l) fs) (one_calling l (function_at g f) (call_of [] l context) (λ k e. AllByRecursion_slice_get IsWithout g.functions all f k e)) (all_callings context (suc l) fs)

-- for each name at once

swapped : {A B : Type 0} (P : A → B → Type 0) (xs : List B) → ((a : A) → AllByRecursion (P a) xs) → AllByRecursion (λ b. (a : A) → P a b) xs
swapped P [] f = tt
swapped P (x ∷ xs) f = (λ a. (f a).0, swapped P xs (λ a. (f a).1))

abbrev Barred : (ℕ → Bool) → Type 0
Barred barred = (x : ℕ) × (barred x ≡ true)

curried : (barred : ℕ → Bool) (xs : List Calling) → AllByRecursion (λ (k : Calling). (y : Barred barred) → is_own k.caller y.0 ≡ false) xs → AllByRecursion (λ (k : Calling). (x : ℕ) → barred x ≡ true → is_own k.caller x ≡ false) xs
curried barred [] f = tt
curried barred (k ∷ ks) f = (λ x e. f.0 (x, e), curried barred ks f.1)

pub no_own : (barred : ℕ → Bool) (c : Context) → binds_none barred (second c.equivalence) ≡ true → AllByRecursion (λ (k : Calling). (x : ℕ) → barred x ≡ true → is_own k.caller x ≡ false) (callings_of c)
no_own barred c e =
    curried barred (callings_of c)
    (swapped (λ (y : Barred barred) (k : Calling). is_own k.caller y.0 ≡ false) (callings_of c)
    (λ y. all_callings barred y.0 y.1 (side_group Right c.equivalence) (functions_lack barred y.0 y.1 (second (second c.equivalence)) (second_child barred y.0 y.1 (second c.equivalence) e)) c.game 0 c.functions))
