-- What stands for the names of an instance has each property of its term that subterms have.
use Rattle.std.proofs.Common.{◌≡◌, ℕ, zero, suc, ◌+◌, ◌<◌, Bool, true, false, cond, ◌==◌, List, [], ◌∷◌, ◌++◌, ◌⊎◌, inl, inr, Option, Some, None, refl, sym, ap, subst, ◌∙◌, eqb-true, arith}
use Rattle.std.proofs.lemmas.Bool.{and_parts, both_ways}
use Rattle.std.specs.List.{AllByRecursion}
use Rattle.cv_syntax_trees.specs.declared.head.Head.{Head}
use Rattle.cv_syntax_trees.specs.declared.head.Head.TheVariants.{Leaf, Read, Apply, Eq, And, Or, Not, Yes, No, Cons}
use Rattle.cv_syntax_trees.specs.Declarations.{Declaration}
use Rattle.cv_syntax_trees.specs.Tree.{Tree, Empty, Node, first_place, second_place}
use Rattle.cv_scene.specs.lines.Given.{or_node, term_for, with_given}
use Rattle.cv_scope_rules.specs.Context.{first_position, replications_below, second_position}
use Rattle.cv_scope_rules.specs.Phrases.{Nil, Term, Terms, is_phrase}
use Rattle.cv_scope_rules.specs.declared.position.Position.{Position}
use Rattle.cv_scene.specs.Instances.{Call, Matching, call_at, names_of, terms_of}
use Rattle.cv_scene.specs.LeftTerms.{HasLeftTerms, reads_no_array}
use Rattle.cv_scene.specs.Refusals.{uses}
use Rattle.cv_scene.specs.Sites.{Site, is_guard, sites_in}
use Rattle.cv_match_laws.proofs.instances.Calls.{call_found}
use Rattle.cv_match_laws.proofs.instances.Given.{Given, firsts, look_at, stands_for}
use Rattle.cv_context_laws.proofs.shape.Terms.{one_of, by_either}
use Rattle.cv_syntax_trees.proofs.lists.Each.{AllByRecursion_append}

no_uses : (x : ℕ) (a : Tree) → is_phrase Nil a ≡ true → uses x a ≡ 0
unfolding is_phrase uses
no_uses x Empty e = refl
no_uses x (Node h a b) e = absurd (both_ways false refl e)

-- a property of trees that children have too
module _ (P : Tree → Type 0) (inner : (h : Head) (a b : Tree) → P (Node h a b) → P a × P b) where
  module _ (xs : List ℕ) (ts : Tree) (z : ℕ) (given : Tree) (found : term_for xs ts z ≡ Some given) where
    mutual
      unfolding uses with_given is_phrase reads_no_array

      given_has : (b : Tree) → is_phrase Term b ≡ true → reads_no_array b ≡ true → P (with_given xs ts b) → 0 < uses z b → P given
      given_has (Node (Leaf x) a b) w n f u =
          let p = and_parts (is_phrase Nil a) _ w in go (x == z) refl (let i = no_uses z a p.0 in let j = no_uses z b p.1 in let e : uses z a + uses z b ≡ 0 = omega arith in e) f u
        where
          go : (c : Bool) → (x == z) ≡ c → uses z a + uses z b ≡ 0 → P (or_node (term_for xs ts x) (Leaf x) (with_given xs ts a) (with_given xs ts b)) → 0 < cond c 1 0 + (uses z a + uses z b) → P given
          go true i k f u = subst (λ o. P (or_node o (Leaf x) (with_given xs ts a) (with_given xs ts b))) (ap (term_for xs ts) (eqb-true x z i) ∙ found) f
          go false i k f u = absurd (omega (arith, k, u))
      given_has (Node (Read x) a b) w n f u = absurd (both_ways false refl n)
      given_has (Node (Apply h) a b) w n f u =
          let p = and_parts (is_phrase Terms a) _ w in
          let i = no_uses z b p.1 in
          all_given_have a p.0 (and_parts (reads_no_array a) _ n).0 (inner (Apply h) (with_given xs ts a) (with_given xs ts b) f).0 (let l : 0 < uses z a = omega (arith, i, u) in l)
      given_has (Node Eq a b) w n f u =
          let p = and_parts (is_phrase Term a) _ w in
          let q = and_parts (reads_no_array a) _ n in
          let k = inner Eq (with_given xs ts a) (with_given xs ts b) f in
          by_either (one_of (uses z a) (uses z b) u) (λ v. given_has a p.0 q.0 k.0 v) (λ v. given_has b p.1 q.1 k.1 v)
      given_has (Node And a b) w n f u =
          let p = and_parts (is_phrase Term a) _ w in
          let q = and_parts (reads_no_array a) _ n in
          let k = inner And (with_given xs ts a) (with_given xs ts b) f in
          by_either (one_of (uses z a) (uses z b) u) (λ v. given_has a p.0 q.0 k.0 v) (λ v. given_has b p.1 q.1 k.1 v)
      given_has (Node Or a b) w n f u =
          let p = and_parts (is_phrase Term a) _ w in
          let q = and_parts (reads_no_array a) _ n in
          let k = inner Or (with_given xs ts a) (with_given xs ts b) f in
          by_either (one_of (uses z a) (uses z b) u) (λ v. given_has a p.0 q.0 k.0 v) (λ v. given_has b p.1 q.1 k.1 v)
      given_has (Node Not a b) w n f u =
          let p = and_parts (is_phrase Term a) _ w in
          let i = no_uses z b p.1 in
          given_has a p.0 (and_parts (reads_no_array a) _ n).0 (inner Not (with_given xs ts a) (with_given xs ts b) f).0 (let l : 0 < uses z a = omega (arith, i, u) in l)
      given_has (Node Yes a b) w n f u = let p = and_parts (is_phrase Nil a) _ w in let i = no_uses z a p.0 in let j = no_uses z b p.1 in absurd (omega (arith, i, j, u))
      given_has (Node No a b) w n f u = let p = and_parts (is_phrase Nil a) _ w in let i = no_uses z a p.0 in let j = no_uses z b p.1 in absurd (omega (arith, i, j, u))
      given_has b w n f u = absurd (both_ways false refl w)

      all_given_have : (b : Tree) → is_phrase Terms b ≡ true → reads_no_array b ≡ true → P (with_given xs ts b) → 0 < uses z b → P given
      all_given_have Empty w n f u = absurd (omega (arith, u))
      all_given_have (Node Cons a b) w n f u =
          let p = and_parts (is_phrase Term a) _ w in
          let q = and_parts (reads_no_array a) _ n in
          let k = inner Cons (with_given xs ts a) (with_given xs ts b) f in
          by_either (one_of (uses z a) (uses z b) u) (λ v. given_has a p.0 q.0 k.0 v) (λ v. all_given_have b p.1 q.1 k.1 v)
      all_given_have b w n f u = absurd (both_ways false refl w)

  -- the key's term and the arguments of a call
  pub call_has : (ds : List Declaration) (M : Matching) (t : Tree) (c : Call) → HasLeftTerms ds M.group → call_at M t ≡ Some c → P t → P c.instance.key × AllByRecursion P c.instance.arguments
  call_has ds M t c left e p =
      let k = call_found ds M t c left e in
      let s = stands_for ds M c.function c.instance k.left k.instance.coins k.instance.arguments in
      let f : P (with_given (names_of M.group c.function) (terms_of c.instance) c.function.body) = subst P (sym k.instance.body) p in (
        given_has (names_of M.group c.function) (terms_of c.instance) M.group.key.0 c.instance.key s.key c.function.body k.left.term k.left.plain f s.key_read,
        arguments (firsts c.function.arguments) c.instance.arguments s.arguments f,
      )
    where
      arguments : (xs : List ℕ) (ms : List Tree) → Given (look_at M.group c.function c.instance) c.function.body xs ms → P (with_given (names_of M.group c.function) (terms_of c.instance) c.function.body) → AllByRecursion P ms
      arguments [] [] g f = tt
      arguments (x ∷ xs) (m ∷ ms) g f =
          (given_has (names_of M.group c.function) (terms_of c.instance) x m g.0.0 c.function.body (call_found ds M t c left e).left.term (call_found ds M t c left e).left.plain f g.0.1, arguments xs ms g.1 f)
      arguments [] (m ∷ ms) g f = absurd g
      arguments (x ∷ xs) [] g f = absurd g

  -- the sites of a tree
  pub sites_have : (M : Matching) (Q : Call → Type 0) → ((t : Tree) (c : Call) → call_at M t ≡ Some c → P t → Q c) → (w : Position) (rs : List (ℕ × ℕ)) (p : ℕ) (t : Tree) → P t → AllByRecursion (λ (s : Site). Q s.call) (sites_in M w rs p t)
  unfolding sites_in
  sites_have M Q at w rs p Empty e = tt
  sites_have M Q at w rs p (Node h a b) e =
      let k = inner h a b e in go (call_at M (Node h a b)) refl (is_guard w) (sites_have M Q at (first_position w h) rs (first_place p h) a k.0) (sites_have M Q at (second_position w h) (replications_below h rs) (second_place p h a) b k.1)
    where
      go : (o : Option Call) → call_at M (Node h a b) ≡ o → (z : Bool) → AllByRecursion (λ (s : Site). Q s.call) (sites_in M (first_position w h) rs (first_place p h) a) → AllByRecursion (λ (s : Site). Q s.call) (sites_in M (second_position w h) (replications_below h rs) (second_place p h a) b)
          → AllByRecursion (λ (s : Site). Q s.call) (elim o as (λ _. List Site) [
            | Some c ↦ record { place = p; term = Node h a b; replications = rs; call = c } ∷ []
            | None ↦ cond z [] (sites_in M (first_position w h) rs (first_place p h) a) ++ sites_in M (second_position w h) (replications_below h rs) (second_place p h a) b
          ])
      go (Some c) q z f g = (at (Node h a b) c q e, tt)
      go None q true f g = g
      go None q false f g = AllByRecursion_append (λ (s : Site). Q s.call) (sites_in M (first_position w h) rs (first_place p h) a) _ f g
