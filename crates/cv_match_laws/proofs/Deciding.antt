-- An instance is what stands where the body has its names.
use Rattle.std.proofs.Common.{◌≡◌, ℕ, suc, Bool, true, false, ◌&&◌, List, [], ◌∷◌, ◌++◌, length, map, reverse, Some, None, refl, ap, ap₂, sym, ◌∙◌, arith, length-append}
use Rattle.std.specs.Prelude.{if◌then◌else◌}
use Rattle.std.proofs.lemmas.Bool.{and_from}
use Rattle.std.proofs.lemmas.List.{length-reverse, map-append, reverse-append, reverse-reverse}
use Rattle.cv_syntax_trees.specs.Tree.{Tree, same_tree}
use Rattle.cv_syntax_trees.proofs.Equality.{same_tree_exact, same_tree_self}
use Rattle.cv_meaning.specs.contexts.Groups.{Function, Group}
use Rattle.cv_scene.specs.Scenes.{or_empty}
use Rattle.cv_scene.specs.Sights.{variable_of}
use Rattle.cv_scene.specs.Instances.{Instance, IsInstance, Matching, are_of_types, filled, guess, instance_of, is_argument_of, is_coin_of, is_instance, is_read_of, names_of, standing_for, term_for, terms_of}
use Rattle.cv_match_laws.specs.Named.{ReadsItsNames}
use Rattle.cv_match_laws.proofs.Standing.{pairs, standing_terms}
use Rattle.cv_syntax_trees.proofs.lists.Places.{reverse_cons, length_map}

reversed_map : {A B : Type 0} (f : A → B) (xs : List A) → reverse (map f xs) ≡ map f (reverse xs)
reversed_map f [] = refl
reversed_map f (x ∷ xs) = reverse_cons (f x) (map f xs) ∙ (ap (λ ys. ys ++ f x ∷ []) (reversed_map f xs) ∙ (sym (map-append f (reverse xs) (x ∷ [])) ∙ ap (map f) (sym (reverse_cons x xs))))

-- as many terms as names
typed_length : (may_be : ℕ → Tree → Bool) (xs : List (ℕ × ℕ)) (ms : List Tree) → are_of_types may_be xs ms ≡ true → length xs ≡ length ms
typed_length may_be [] [] e = refl
typed_length may_be [] (m ∷ ms) e = absurd (cc)
typed_length may_be (x ∷ xs) [] e = absurd (cc)
typed_length may_be (x ∷ xs) (m ∷ ms) e = ap suc (typed_length may_be xs ms (rest (may_be x.1 m) (are_of_types may_be xs ms) e))
  where
    rest : (a b : Bool) → (a && b) ≡ true → b ≡ true
    rest true b e = e
    rest false b e = absurd (cc)

-- two lists of equal lengths that are joined
front : {A : Type 0} (xs bs ys ds : List A) → length xs ≡ length ys → xs ++ bs ≡ ys ++ ds → (xs ≡ ys) × (bs ≡ ds)
front [] bs [] ds e f = (refl, f)
front [] bs (y ∷ ys) ds e f = absurd (cc)
front (x ∷ xs) bs [] ds e f = absurd (cc)
front (x ∷ xs) bs (y ∷ ys) ds e f =
    let l : length xs ≡ length ys = cc in
    let h : x ≡ y = cc in
    let t : xs ++ bs ≡ ys ++ ds = cc in
    let r : (xs ≡ ys) × (bs ≡ ds) = front xs bs ys ds l t in
    (ap₂ (λ z zs. z ∷ zs) h r.0, r.1)

abbrev all_names : Group → Function → List (ℕ × ℕ)
all_names g f = g.key ∷ f.coins ++ f.arguments

abbrev all_terms : Instance → List Tree
all_terms I = I.key ∷ I.coins ++ I.arguments

all_length : (M : Matching) (f : Function) (I : Instance) (m : Tree) → IsInstance M f I m → length (all_names M.group f) ≡ length (all_terms I)
all_length M f I m i =
    let c : length f.coins ≡ length I.coins = typed_length (is_coin_of M) f.coins I.coins i.coins in
    let a : length f.arguments ≡ length I.arguments = typed_length (is_argument_of M) f.arguments I.arguments i.arguments in
    omega (arith, length-append f.coins f.arguments, length-append I.coins I.arguments)

-- by name alone
named : (body m : Tree) (xs : List (ℕ × ℕ)) → map (λ x. or_empty (standing_for x body m)) (map (λ (y : ℕ × ℕ). y.0) xs) ≡ map (term_for body m) xs
named body m [] = refl
named body m (x ∷ xs) = ap (λ ts. term_for body m x ∷ ts) (named body m xs)

-- each name stands for its term
all_stand : (M : Matching) (f : Function) (I : Instance) (m : Tree) → ReadsItsNames M.group f → IsInstance M f I m → map (term_for f.body m) (all_names M.group f) ≡ all_terms I
all_stand M f I m r i =
    let g : Group = M.group in
    let us : List Tree = reverse (all_terms I) in
    let l : length (names_of g f) ≡ length us = length-reverse (map (λ (x : ℕ × ℕ). x.0) (all_names g f)) ∙ (length_map (λ (x : ℕ × ℕ). x.0) (all_names g f) ∙ (all_length M f I m i ∙ sym (length-reverse (all_terms I)))) in
    let F : ℕ → Tree = λ x. or_empty (standing_for x f.body (filled g f I)) in
    let s : map F (names_of g f) ≡ us = standing_terms (names_of g f) (terms_of I) f.body r.bare (names_of g f) us (pairs (names_of g f) us l r.apart) r.read in
    let b : reverse (map F (map (λ (x : ℕ × ℕ). x.0) (all_names g f))) ≡ us = reversed_map F (map (λ (x : ℕ × ℕ). x.0) (all_names g f)) ∙ s in
    let d : map F (map (λ (x : ℕ × ℕ). x.0) (all_names g f)) ≡ all_terms I = sym (reverse-reverse (map F (map (λ (x : ℕ × ℕ). x.0) (all_names g f)))) ∙ (ap reverse b ∙ reverse-reverse (all_terms I)) in
    ap (λ t. map (term_for f.body t) (all_names g f)) (sym i.body) ∙ (sym (named f.body (filled g f I) (all_names g f)) ∙ d)

abbrev make : Tree → List Tree → List Tree → Instance
make k cs bs = record { key = k; coins = cs; arguments = bs }

pub guess_only : (M : Matching) (f : Function) (I : Instance) (m : Tree) → ReadsItsNames M.group f → IsInstance M f I m → guess M.group f m ≡ I
guess_only M f I m r i =
    let s : term_for f.body m M.group.key ∷ map (term_for f.body m) (f.coins ++ f.arguments) ≡ I.key ∷ (I.coins ++ I.arguments) = all_stand M f I m r i in
    let k : term_for f.body m M.group.key ≡ I.key = cc in
    let t : map (term_for f.body m) (f.coins ++ f.arguments) ≡ I.coins ++ I.arguments = cc in
    let p : map (term_for f.body m) f.coins ++ map (term_for f.body m) f.arguments ≡ I.coins ++ I.arguments = sym (map-append (term_for f.body m) f.coins f.arguments) ∙ t in
    let q : (map (term_for f.body m) f.coins ≡ I.coins) × (map (term_for f.body m) f.arguments ≡ I.arguments) =
    front (map (term_for f.body m) f.coins) (map (term_for f.body m) f.arguments) I.coins I.arguments (length_map (term_for f.body m) f.coins ∙ typed_length (is_coin_of M) f.coins I.coins i.coins) p in
    ap (λ t. make t (map (term_for f.body m) f.coins) (map (term_for f.body m) f.arguments)) k
    ∙ ap₂ (make I.key) q.0 q.1

four : (a b c d : Bool) → (a && (b && (c && d))) ≡ true → (a ≡ true) × (b ≡ true) × (c ≡ true) × (d ≡ true)
four true true true true e = (refl, refl, refl, refl)
four false b c d e = absurd (cc)
four true false c d e = absurd (cc)
four true true false d e = absurd (cc)
four true true true false e = absurd (cc)

pub computed_instance : (M : Matching) (f : Function) (I : Instance) (m : Tree) → is_instance M f I m ≡ true → IsInstance M f I m
computed_instance M f I m e =
    let t = four (same_tree (filled M.group f I) m) (is_read_of M.key (variable_of I.key)) (are_of_types (is_coin_of M) f.coins I.coins) (are_of_types (is_argument_of M) f.arguments I.arguments) e in
    record { body = same_tree_exact (filled M.group f I) m t.0; key = t.1; coins = t.2; arguments = t.3 }

pub instance_computed : (M : Matching) (f : Function) (I : Instance) (m : Tree) → IsInstance M f I m → is_instance M f I m ≡ true
instance_computed M f I m i =
    and_from (same_tree (filled M.group f I) m) _ (ap (λ t. same_tree t m) i.body ∙ same_tree_self m)
    (and_from (is_read_of M.key (variable_of I.key)) _ i.key (and_from (are_of_types (is_coin_of M) f.coins I.coins) _ i.coins i.arguments))

found_one : (b : Bool) (J I : Instance) → (if b then Some J else None) ≡ Some I → (b ≡ true) × (J ≡ I)
found_one true J I e = (refl, cc)
found_one false J I e = absurd (cc)

pub found_instance : (M : Matching) (f : Function) (I : Instance) (m : Tree) → instance_of M f m ≡ Some I → IsInstance M f I m
found_instance M f I m e =
    let p = found_one (is_instance M f (guess M.group f m) m) (guess M.group f m) I e in
    computed_instance M f I m (ap (λ J. is_instance M f J m) (sym p.1) ∙ p.0)

pub instance_found : (M : Matching) (f : Function) (I : Instance) (m : Tree) → ReadsItsNames M.group f → IsInstance M f I m → instance_of M f m ≡ Some I
instance_found M f I m r i =
    let e = guess_only M f I m r i in
    ap (λ b. if b then Some (guess M.group f m) else None) (ap (λ J. is_instance M f J m) e ∙ instance_computed M f I m i) ∙ ap Some e
