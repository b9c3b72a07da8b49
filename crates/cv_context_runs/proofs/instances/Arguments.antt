-- What stands for an argument of a site: it doesn't read the key, where the walk over arguments finds no read.
use Rattle.std.proofs.Common.{◌≡◌, ℕ, zero, suc, ◌+◌, ◌<◌, Bool, true, false, cond, ◌==◌, List, ◌⊎◌, inl, inr, Option, Some, None, refl, sym, ap, ◌∙◌, eqb-true, arith}
use Rattle.std.proofs.lemmas.Bool.{both_ways, and_parts}
use Rattle.cv_syntax_trees.specs.declared.head.Head.{Head}
use Rattle.cv_syntax_trees.specs.declared.head.Head.TheVariants.{And, Apply, Cons, Eq, Leaf, No, Not, Or, Read, Yes}
use Rattle.cv_syntax_trees.specs.Tree.{Tree, Empty, Node, first_place, second_place}
use Rattle.cv_syntax_trees.specs.sites.Sites.{first_of}
use Rattle.cv_scope_rules.specs.Phrases.{Nil, Term, Terms, is_phrase}
use Rattle.cv_scene.specs.Scenes.{first_reading, head_reads}
use Rattle.cv_scene.specs.lines.Given.{or_node, term_for, with_given}
use Rattle.cv_scene.specs.Refusals.{first_in_arguments, is_among, is_name_of, uses}
use Rattle.cv_scene.specs.LeftTerms.{reads_no_array}
use Rattle.cv_syntax_trees.proofs.lists.Options.{some_none}

pub both_none : (o u : Option ℕ) → first_of o u ≡ None → (o ≡ None) × (u ≡ None)
both_none None u e = (refl, e)
both_none (Some x) u e = absurd (some_none x e)

pub unread_unused : (x p : ℕ) (t : Tree) → first_reading x p t ≡ None → uses x t ≡ 0
unfolding first_reading uses
unread_unused x p Empty e = refl
unread_unused x p (Node h a b) e = go (head_reads x h) e (λ f. unread_unused x (first_place p h) a f) (λ f. unread_unused x (second_place p h a) b f)
  where
    go : (c : Bool) → cond c (Some p) (first_of (first_reading x (first_place p h) a) (first_reading x (second_place p h a) b)) ≡ None → (first_reading x (first_place p h) a ≡ None → uses x a ≡ 0) → (first_reading x (second_place p h a) b ≡ None → uses x b ≡ 0) → cond c 1 0 + (uses x a + uses x b) ≡ 0
    go true e f g = absurd (some_none p e)
    go false e f g = let q = both_none (first_reading x (first_place p h) a) (first_reading x (second_place p h a) b) e in let i = f q.0 in let j = g q.1 in omega arith

nil_unused : (x : ℕ) (a : Tree) → is_phrase Nil a ≡ true → uses x a ≡ 0
unfolding is_phrase uses
nil_unused x Empty e = refl
nil_unused x (Node h a b) e = absurd (both_ways false refl e)

pub either : (a b : ℕ) → 0 < a + b → (0 < a) ⊎ (0 < b)
either zero b l = inr (omega arith)
either (suc a) b l = inl (omega arith)

module _ (key : ℕ) (zs : List (ℕ × ℕ)) (xs : List ℕ) (ts : Tree) (x : ℕ) (given : Tree) (found : term_for xs ts x ≡ Some given) (argument : is_among zs x ≡ true) where
  abbrev Free : Tree → Type 0
  Free b = (p : ℕ) → 0 < uses x b → first_in_arguments key zs b p (with_given xs ts b) ≡ None → uses key given ≡ 0

  leaf_free : (q : ℕ) (a b c d : Tree) (u : ℕ) → u ≡ 0 → (z : Bool) → (q == x) ≡ z → (p : ℕ) → 0 < cond z 1 0 + u → first_in_arguments key zs (Node (Leaf q) a b) p (or_node (term_for xs ts q) (Leaf q) c d) ≡ None → uses key given ≡ 0
  unfolding first_in_arguments uses
  leaf_free q a b c d u e true i p l f =
      let same : q ≡ x = eqb-true q x i in
      here given (ap (is_among zs) same ∙ argument) (ap (λ o. first_in_arguments key zs (Node (Leaf q) a b) p (or_node o (Leaf q) c d)) (sym (ap (term_for xs ts) same ∙ found)) ∙ f)
    where
      here : (m : Tree) → is_among zs q ≡ true → first_in_arguments key zs (Node (Leaf q) a b) p m ≡ None → uses key m ≡ 0
      here Empty e f = refl
      here (Node h m n) e f = unread_unused key p (Node h m n) (ap (λ z. cond z (first_reading key p (Node h m n)) (first_of (first_in_arguments key zs a (first_place p h) m) (first_in_arguments key zs b (second_place p h m) n))) (sym e) ∙ f)
  leaf_free q a b c d u e false i p l f = absurd (omega arith)

  both_free : (h : Head) (a b : Tree) → is_name_of zs h ≡ false → (p : ℕ) → Free a → Free b → 0 < uses x a + uses x b → first_in_arguments key zs (Node h a b) p (Node h (with_given xs ts a) (with_given xs ts b)) ≡ None → uses key given ≡ 0
  unfolding first_in_arguments
  both_free h a b e p f g l n =
      go (either (uses x a) (uses x b) l)
    where
      q : (first_in_arguments key zs a (first_place p h) (with_given xs ts a) ≡ None) × (first_in_arguments key zs b (second_place p h (with_given xs ts a)) (with_given xs ts b) ≡ None)
      q = both_none (first_in_arguments key zs a (first_place p h) (with_given xs ts a)) (first_in_arguments key zs b (second_place p h (with_given xs ts a)) (with_given xs ts b)) (ap (λ z. cond z (first_reading key p (Node h (with_given xs ts a) (with_given xs ts b))) (first_of (first_in_arguments key zs a (first_place p h) (with_given xs ts a)) (first_in_arguments key zs b (second_place p h (with_given xs ts a)) (with_given xs ts b)))) (sym e) ∙ n)

      go : (0 < uses x a) ⊎ (0 < uses x b) → uses key given ≡ 0
      go (inl k) = f (first_place p h) k q.0
      go (inr k) = g (second_place p h (with_given xs ts a)) k q.1

  nil_free : (a : Tree) → is_phrase Nil a ≡ true → Free a
  nil_free a e p l n = absurd (let z = nil_unused x a e in omega arith)

  mutual
    unfolding uses with_given is_phrase reads_no_array

    pub argument_free : (b : Tree) → is_phrase Term b ≡ true → reads_no_array b ≡ true → Free b
    argument_free (Node (Leaf q) a b) w n p l f =
        let r = and_parts (is_phrase Nil a) _ w in
        leaf_free q a b _ _ (uses x a + uses x b) (let i = nil_unused x a r.0 in let j = nil_unused x b r.1 in omega arith) (q == x) refl p l f
    argument_free (Node (Read q) a b) w n p l f = absurd (both_ways false refl n)
    argument_free (Node (Apply g) a b) w n p l f =
        let r = and_parts (is_phrase Terms a) _ w in let s = and_parts (reads_no_array a) _ n in
        both_free (Apply g) a b refl p (arguments_free a r.0 s.0) (nil_free b r.1) (omega arith) f
    argument_free (Node Eq a b) w n p l f = let r = and_parts (is_phrase Term a) _ w in let s = and_parts (reads_no_array a) _ n in both_free Eq a b refl p (argument_free a r.0 s.0) (argument_free b r.1 s.1) (omega arith) f
    argument_free (Node And a b) w n p l f = let r = and_parts (is_phrase Term a) _ w in let s = and_parts (reads_no_array a) _ n in both_free And a b refl p (argument_free a r.0 s.0) (argument_free b r.1 s.1) (omega arith) f
    argument_free (Node Or a b) w n p l f = let r = and_parts (is_phrase Term a) _ w in let s = and_parts (reads_no_array a) _ n in both_free Or a b refl p (argument_free a r.0 s.0) (argument_free b r.1 s.1) (omega arith) f
    argument_free (Node Not a b) w n p l f = let r = and_parts (is_phrase Term a) _ w in let s = and_parts (reads_no_array a) _ n in both_free Not a b refl p (argument_free a r.0 s.0) (nil_free b r.1) (omega arith) f
    argument_free (Node Yes a b) w n p l f = let r = and_parts (is_phrase Nil a) _ w in both_free Yes a b refl p (nil_free a r.0) (nil_free b r.1) (omega arith) f
    argument_free (Node No a b) w n p l f = let r = and_parts (is_phrase Nil a) _ w in both_free No a b refl p (nil_free a r.0) (nil_free b r.1) (omega arith) f
    argument_free b w n p l f = absurd (both_ways false refl w)

    arguments_free : (b : Tree) → is_phrase Terms b ≡ true → reads_no_array b ≡ true → Free b
    arguments_free Empty w n p l f = absurd (omega arith)
    arguments_free (Node Cons a b) w n p l f = let r = and_parts (is_phrase Term a) _ w in let s = and_parts (reads_no_array a) _ n in both_free Cons a b refl p (argument_free a r.0 s.0) (arguments_free b r.1 s.1) (omega arith) f
    arguments_free b w n p l f = absurd (both_ways false refl w)
