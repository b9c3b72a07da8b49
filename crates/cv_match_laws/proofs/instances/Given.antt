-- What stands for the names of an instance: for each name its own term, which the body reads.
use Rattle.std.proofs.Common.{◌≡◌, ℕ, ◌+◌, ◌<◌, Bool, true, false, cond, ◌==◌, List, [], ◌∷◌, ◌++◌, map, Option, Some, refl, sym, ap, subst, ◌∙◌, eq-eqb, arith}
use Rattle.std.proofs.lemmas.Bool.{both_ways, and_parts}
use Rattle.std.specs.List.{AllByRecursion, IsDistinct}
use Rattle.std.specs.Prelude.{nat_eq}
use mathlib.Core.List.{reverse_aux}
use Rattle.cv_syntax_trees.specs.declared.head.Head.TheVariants.{Leaf, Read}
use Rattle.cv_syntax_trees.specs.Declarations.{Declaration}
use Rattle.cv_syntax_trees.specs.Tree.{Tree, Empty, Node, chain}
use Rattle.cv_meaning.specs.contexts.Groups.{Function, Group}
use Rattle.cv_scene.specs.Sights.{variable_of}
use Rattle.cv_scene.specs.lines.Given.{term_for}
use Rattle.cv_scene.specs.Instances.{Instance, Matching, are_of_types, is_argument_of, is_coin_of, is_read_of, names_of, terms_of}
use Rattle.cv_scene.specs.Refusals.{uses}
use Rattle.cv_scene.specs.LeftTerms.{IsLeftFunction}

abbrev pub firsts : List (ℕ × ℕ) → List ℕ
firsts xs = map (λ (x : ℕ × ℕ). x.0) xs

-- as many names as terms

abbrev AsMany : List ℕ → List Tree → Type 0
AsMany [] [] = Unit {0}
AsMany (x ∷ xs) (m ∷ ms) = AsMany xs ms
AsMany xs ms = ⊥

many_typed : (may_be : ℕ → Tree → Bool) (xs : List (ℕ × ℕ)) (ms : List Tree) → are_of_types may_be xs ms ≡ true → AsMany (firsts xs) ms
many_typed may_be [] [] e = tt
many_typed may_be (x ∷ xs) (m ∷ ms) e = many_typed may_be xs ms (and_parts (may_be x.1 m) (are_of_types may_be xs ms) e).1
many_typed may_be [] (m ∷ ms) e = absurd (both_ways false refl e)
many_typed may_be (x ∷ xs) [] e = absurd (both_ways false refl e)

many_both : (xs ys : List (ℕ × ℕ)) (ms ns : List Tree) → AsMany (firsts xs) ms → AsMany (firsts ys) ns → AsMany (firsts (xs ++ ys)) (ms ++ ns)
many_both [] ys [] ns e f = f
many_both (x ∷ xs) ys (m ∷ ms) ns e f = many_both xs ys ms ns e f
many_both [] ys (m ∷ ms) ns e f = absurd e
many_both (x ∷ xs) ys [] ns e f = absurd e

many_reversed : (xs : List ℕ) (ms : List Tree) (A : List ℕ) (B : List Tree) → AsMany xs ms → AsMany A B → AsMany (reverse_aux xs A) (reverse_aux ms B)
many_reversed [] [] A B e f = f
many_reversed (x ∷ xs) (m ∷ ms) A B e f = many_reversed xs ms (x ∷ A) (m ∷ B) e f
many_reversed [] (m ∷ ms) A B e f = absurd e
many_reversed (x ∷ xs) [] A B e f = absurd e

-- names apart

all_first : (P Q : ℕ → Type 0) (xs : List ℕ) → AllByRecursion (λ x. P x × Q x) xs → AllByRecursion Q xs
all_first P Q [] h = tt
all_first P Q (x ∷ xs) h = (h.0.1, all_first P Q xs h.1)

distinct_rest : (xs A : List ℕ) → IsDistinct nat_eq (reverse_aux xs A) → IsDistinct nat_eq A
unfolding IsDistinct
distinct_rest [] A d = d
distinct_rest (x ∷ xs) A d = (distinct_rest xs (x ∷ A) d).1

distinct_across : (xs A : List ℕ) → IsDistinct nat_eq (reverse_aux xs A) → AllByRecursion (λ x. AllByRecursion (λ y. nat_eq x y ≡ false) A) xs
unfolding IsDistinct
distinct_across [] A d = tt
distinct_across (x ∷ xs) A d = (
  (distinct_rest xs (x ∷ A) d).0,
  all_first (λ z. nat_eq z x ≡ false) (λ z. AllByRecursion (λ y. nat_eq z y ≡ false) A) xs (distinct_across xs (x ∷ A) d),
)

crossed : (zs xs : List (ℕ × ℕ)) (A : List ℕ) → IsDistinct nat_eq (reverse_aux (firsts (zs ++ xs)) A) → AllByRecursion (λ x. AllByRecursion (λ y. nat_eq x y ≡ false) (reverse_aux (firsts zs) A)) (firsts xs)
crossed [] xs A d = distinct_across (firsts xs) A d
crossed (z ∷ zs) xs A d = crossed zs xs (z.0 ∷ A) d

unreversed : (P : ℕ → Type 0) (xs A : List ℕ) → AllByRecursion P (reverse_aux xs A) → AllByRecursion P xs × AllByRecursion P A
unreversed P [] A h = (tt, h)
unreversed P (x ∷ xs) A h = let r = unreversed P xs (x ∷ A) h in ((r.1.0, r.0), r.1.1)

each_unreversed : (zs A xs : List ℕ) → AllByRecursion (λ x. AllByRecursion (λ y. nat_eq x y ≡ false) (reverse_aux zs A)) xs → AllByRecursion (λ x. AllByRecursion (λ y. nat_eq x y ≡ false) zs) xs
each_unreversed zs A [] h = tt
each_unreversed zs A (x ∷ xs) h = ((unreversed (λ y. nat_eq x y ≡ false) zs A h.0).0, each_unreversed zs A xs h.1)

-- for each name its term

module _ (look : ℕ → Option Tree) (body : Tree) where
  abbrev pub Given : List ℕ → List Tree → Type 0
  Given [] [] = Unit {0}
  Given (x ∷ xs) (m ∷ ms) = ((look x ≡ Some m) × (0 < uses x body)) × Given xs ms
  Given xs ms = ⊥

  later : (x : ℕ) (m : Tree) (F : ℕ → Option Tree) (xs : List ℕ) → AllByRecursion (λ y. nat_eq x y ≡ false) xs → AllByRecursion (λ y. look y ≡ cond (x == y) (Some m) (F y)) xs → AllByRecursion (λ y. look y ≡ F y) xs
  later x m F [] d e = tt
  later x m F (y ∷ xs) d e = (e.0 ∙ ap (λ b. cond b (Some m) (F y)) d.0, later x m F xs d.1 e.1)

  given_all : (xs : List ℕ) (ms : List Tree) → AsMany xs ms → IsDistinct nat_eq xs → AllByRecursion (λ x. 0 < uses x body) xs → AllByRecursion (λ y. look y ≡ term_for xs (chain ms) y) xs → Given xs ms
  unfolding IsDistinct
  given_all [] [] n d r e = tt
  given_all (x ∷ xs) (m ∷ ms) n d r e = (
    (e.0 ∙ ap (λ b. cond b (Some m) (term_for xs (chain ms) x)) (eq-eqb x x refl), r.0),
    given_all xs ms n d.1 r.1 (later x m (term_for xs (chain ms)) xs d.0 e.1),
  )
  given_all [] (m ∷ ms) n d r e = absurd n
  given_all (x ∷ xs) [] n d r e = absurd n

  given_reversed : (xs : List ℕ) (ms : List Tree) (A : List ℕ) (B : List Tree) → AsMany xs ms → Given (reverse_aux xs A) (reverse_aux ms B) → Given xs ms × Given A B
  given_reversed [] [] A B n h = (tt, h)
  given_reversed (x ∷ xs) (m ∷ ms) A B n h = let r = given_reversed xs ms (x ∷ A) (m ∷ B) n h in ((r.1.0, r.0), r.1.1)
  given_reversed [] (m ∷ ms) A B n h = absurd n
  given_reversed (x ∷ xs) [] A B n h = absurd n

  given_parts : (zs xs : List (ℕ × ℕ)) (cs ms : List Tree) → AsMany (firsts zs) cs → Given (firsts (zs ++ xs)) (cs ++ ms) → Given (firsts zs) cs × Given (firsts xs) ms
  given_parts [] xs [] ms n h = (tt, h)
  given_parts (z ∷ zs) xs (c ∷ cs) ms n h = let r = given_parts zs xs cs ms n h.1 in ((h.0, r.0), r.1)
  given_parts [] xs (c ∷ cs) ms n h = absurd n
  given_parts (z ∷ zs) xs [] ms n h = absurd n

pub all_refl : (F : ℕ → Option Tree) (xs : List ℕ) → AllByRecursion (λ y. F y ≡ F y) xs
all_refl F [] = tt
all_refl F (x ∷ xs) = (refl, all_refl F xs)

-- the term of a name at a site

abbrev pub look_at : Group → Function → Instance → ℕ → Option Tree
look_at G f I = term_for (names_of G f) (terms_of I)

pub record StandsFor (G : Group) (f : Function) (I : Instance) : Type 0 where
  pub coins : Given (look_at G f I) f.body (firsts f.coins) I.coins
  pub arguments : Given (look_at G f I) f.body (firsts f.arguments) I.arguments
  pub key : look_at G f I G.key.0 ≡ Some I.key
  pub key_read : 0 < uses G.key.0 f.body
  pub apart : AllByRecursion (λ x. AllByRecursion (λ y. nat_eq x y ≡ false) (G.key.0 ∷ [])) (firsts (f.coins ++ f.arguments))
  pub crossed : AllByRecursion (λ x. AllByRecursion (λ y. nat_eq x y ≡ false) (firsts f.coins)) (firsts f.arguments)

pub stands_for : (ds : List Declaration) (M : Matching) (f : Function) (I : Instance) → IsLeftFunction ds M.group f → are_of_types (is_coin_of M) f.coins I.coins ≡ true → are_of_types (is_argument_of M) f.arguments I.arguments ≡ true → StandsFor M.group f I
stands_for ds M f I left coins arguments =
    let some : AsMany (firsts f.coins) I.coins = many_typed (is_coin_of M) f.coins I.coins coins in
    let many : AsMany (firsts (f.coins ++ f.arguments)) (I.coins ++ I.arguments) = many_both f.coins f.arguments I.coins I.arguments some (many_typed (is_argument_of M) f.arguments I.arguments arguments) in
    let all : Given (look_at M.group f I) f.body (reverse_aux (firsts (f.coins ++ f.arguments)) (M.group.key.0 ∷ [])) (reverse_aux (I.coins ++ I.arguments) (I.key ∷ [])) =
    given_all (look_at M.group f I) f.body (names_of M.group f) (reverse_aux (I.coins ++ I.arguments) (I.key ∷ []))
    (many_reversed (firsts (f.coins ++ f.arguments)) (I.coins ++ I.arguments) (M.group.key.0 ∷ []) (I.key ∷ []) many tt)
    left.distinct left.read (all_refl (look_at M.group f I) (names_of M.group f)) in
    let r = given_reversed (look_at M.group f I) f.body (firsts (f.coins ++ f.arguments)) (I.coins ++ I.arguments) (M.group.key.0 ∷ []) (I.key ∷ []) many all in
    let p = given_parts (look_at M.group f I) f.body f.coins f.arguments I.coins I.arguments some r.0 in
    record { coins = p.0; arguments = p.1; key = r.1.0.0; key_read = r.1.0.1; apart = distinct_across (firsts (f.coins ++ f.arguments)) (M.group.key.0 ∷ []) left.distinct; crossed = each_unreversed (firsts f.coins) (M.group.key.0 ∷ []) (firsts f.arguments) (crossed f.coins f.arguments (M.group.key.0 ∷ []) left.distinct) }

-- a term that reads a variable uses it
pub read_uses : (y : ℕ) (m : Tree) → is_read_of y (variable_of m) ≡ true → 0 < uses y m
unfolding uses
read_uses y Empty e = absurd (both_ways false refl e)
read_uses y (Node (Leaf x) a b) e = subst (λ c. 0 < cond c 1 0 + (uses y a + uses y b)) (sym e) (omega arith)
read_uses y (Node (Read x) a b) e = subst (λ c. 0 < cond c 1 0 + (uses y a + uses y b)) (sym e) (omega arith)
read_uses y (Node h a b) e = absurd (both_ways false refl e)
