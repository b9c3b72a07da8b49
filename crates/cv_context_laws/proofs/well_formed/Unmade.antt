-- A name that the game does not define, and that is no answer, the context does not define.
use Rattle.std.proofs.Common.{◌≡◌, ℕ, suc, ◌≤◌, ◌<◌, Bool, true, false, cond, ◌||◌, ◌==◌, List, [], length, is_some, Option, Some, None, refl, ap, ap₂, subst, ◌∙◌, eqb-true, arith}
use Rattle.std.proofs.lemmas.Bool.{and_parts, both_ways, or_parts}
use Rattle.cv_syntax_trees.specs.declared.head.Head.{Head}
use Rattle.cv_syntax_trees.specs.declared.head.Head.TheVariants.{Leaf, Read, Apply, Eq, And, Or, Not, Yes, No, Cons, Name, Binder, New, Key, Call}
use Rattle.cv_syntax_trees.specs.Tree.{Tree, Empty, Node}
use Rattle.cv_syntax_trees.specs.sites.Sites.{Variable, at_parameters, first_of, first_site, is_untyped_here, is_untyped_in, parameters_below, site_here}
use Rattle.cv_syntax_trees.specs.declared.sites.sort.Sort.{Sort}
use Rattle.cv_syntax_trees.specs.declared.sites.sort.Sort.TheVariants.{OfType}
use Rattle.cv_scope_rules.specs.Scope.{is_variable}
use Rattle.cv_scope_rules.specs.declared.position.Position.{Position}
use Rattle.cv_scope_rules.specs.declared.position.Position.TheVariants.{Anywhere}
use Rattle.cv_scene.specs.Reductions.{Reduction, is_answer, is_plain, sites}
use Rattle.cv_context_runs.proofs.service.Kept.{answers_are}
use Rattle.cv_context_laws.proofs.well_formed.Becoming.{AreCalls, none, call, Becomes, still, node, coin, key, statement, is_still, is_still_head}
use Rattle.cv_context_laws.proofs.well_formed.Sites.{calls_ordered, ordered}
use Rattle.cv_context_laws.proofs.well_formed.Shown.{plain_no_answer}

first_none : {A : Type 0} (o q : Option A) → first_of o q ≡ None → (o ≡ None) × (q ≡ None)
first_none None q e = (refl, e)
first_none (Some x) q e = absurd (clash e)
  where
    clash : first_of (Some x) q ≡ None → ⊥
    clash e = cc

none_at : (ps : List ℕ) (o : Option Sort) → at_parameters ps o ≡ None → o ≡ None
none_at ps None e = refl
none_at ps (Some s) e = absurd (clash e)
  where
    clash : at_parameters ps (Some s) ≡ None → ⊥
    clash e = cc

still_site : (x : ℕ) (h : Head) (a : Tree) → is_still_head h ≡ true → (site_here x h a ≡ None) × (is_untyped_here x h ≡ false)
still_site x (Leaf y) a e = (refl, refl)
still_site x (Read y) a e = (refl, refl)
still_site x (Apply f) a e = (refl, refl)
still_site x Eq a e = (refl, refl)
still_site x And a e = (refl, refl)
still_site x Or a e = (refl, refl)
still_site x Not a e = (refl, refl)
still_site x Yes a e = (refl, refl)
still_site x No a e = (refl, refl)
still_site x Cons a e = (refl, refl)
still_site x (Name i) a e = (refl, refl)
still_site x (Binder y T) a e = (refl, refl)
still_site x h a e = absurd (both_ways false refl e)

abbrev IsUnmade : ℕ → List ℕ → Tree → Type 0
IsUnmade x ps t = (first_site x ps t ≡ None) × (is_untyped_in x t ≡ false)

node_unmade : (x : ℕ) (ps : List ℕ) (h : Head) (a b : Tree) → site_here x h a ≡ None → is_untyped_here x h ≡ false → IsUnmade x ps a → IsUnmade x (parameters_below h ps) b → IsUnmade x ps (Node h a b)
unfolding first_site is_untyped_in
node_unmade x ps h a b s u f g = (ap₂ first_of (ap (at_parameters ps) s) (ap₂ first_of f.0 g.0), ap₂ ◌||◌ u (ap₂ ◌||◌ f.1 g.1))

record AreUnmade (x : ℕ) (ps : List ℕ) (h : Head) (a b : Tree) : Type 0 where
  here : site_here x h a ≡ None
  untyped : is_untyped_here x h ≡ false
  first : IsUnmade x ps a
  second : IsUnmade x (parameters_below h ps) b

unmade_node : (x : ℕ) (ps : List ℕ) (h : Head) (a b : Tree) → IsUnmade x ps (Node h a b) → AreUnmade x ps h a b
unfolding first_site is_untyped_in
unmade_node x ps h a b m =
    let p = first_none (at_parameters ps (site_here x h a)) _ m.0 in
    let q = first_none (first_site x ps a) (first_site x (parameters_below h ps) b) p.1 in
    let u = or_parts (is_untyped_here x h) _ m.1 in
    let v = or_parts (is_untyped_in x a) (is_untyped_in x b) u.1 in
    record { here = none_at ps (site_here x h a) p.0; untyped = u.0; first = (q.0, v.0); second = (q.1, v.1) }

still_unmade : (x : ℕ) (ps : List ℕ) (t : Tree) → is_still t ≡ true → IsUnmade x ps t
unfolding is_still first_site is_untyped_in
still_unmade x ps Empty e = (refl, refl)
still_unmade x ps (Node h a b) e =
    let u = and_parts (is_still_head h) _ e in
    let v = and_parts (is_still a) (is_still b) u.1 in
    let s = still_site x h a u.0 in node_unmade x ps h a b s.0 s.1 (still_unmade x ps a v.0) (still_unmade x (parameters_below h ps) b v.1)

empty_unmade : (x : ℕ) (ps : List ℕ) → IsUnmade x ps Empty
unfolding first_site is_untyped_in
empty_unmade x ps = (refl, refl)

other_name : (x y T : ℕ) (a : Tree) → site_here x (New y T) a ≡ None → (y == x) ≡ false
other_name x y T a e = go (y == x) e
  where
    go : (b : Bool) → ◌≡◌ {A = Option Sort} (cond b (Some (OfType T)) None) None → b ≡ false
    go false e = refl
    go true e = absurd (clash e)
      where
        clash : ◌≡◌ {A = Option Sort} (Some (OfType T)) None → ⊥
        clash e = cc

module _ (r : Reduction) (x : ℕ) (plain : is_plain r x ≡ true) where
  no_answer_is : (j : ℕ) → j < length (sites r) → (r.answer j == x) ≡ false
  no_answer_is j l = go (r.answer j == x) refl
    where
      go : (b : Bool) → (r.answer j == x) ≡ b → b ≡ false
      go false e = refl
      go true e = absurd (both_ways _ (plain_no_answer r x plain) (subst (λ y. is_answer r y ≡ true) (eqb-true (r.answer j) x e) (answers_are r j l)))

  calls_unmade : (t u : Tree) (ps : List ℕ) (j k : ℕ) → AreCalls r j k t u → k ≤ length (sites r) → IsUnmade x ps t → IsUnmade x ps u
  calls_unmade t u ps j k none l m = m
  calls_unmade t u ps j k (call {m = n} {u = v} e c) l m =
      let o = calls_ordered r t v (suc j) k c in
      node_unmade x ps (Call (r.answer j) j) n v refl (no_answer_is j (omega (arith, o, l))) (still_unmade x ps n e) (calls_unmade t v ps (suc j) k c l m)

  unmade : (w : Position) (rs : List (ℕ × ℕ)) (j k : ℕ) (t u : Tree) (ps : List ℕ) → Becomes r w rs j k t u → k ≤ length (sites r) → IsUnmade x ps t → IsUnmade x ps u
  unmade w rs j k t u ps (still le e) l m = m
  unmade w rs j k t u ps (node {k = i} {h = h} {a = a} {b = b} {c = c} {d = d} s f g) l m =
      let n = unmade_node x ps h a b m in
      let o = ordered r _ _ i k b d g in
      node_unmade x ps h c d (s.made x ∙ n.here) n.untyped (unmade _ rs j i a c ps f (omega (arith, o, l)) n.first) (unmade _ _ i k b d (parameters_below h ps) g l n.second)
  unmade w rs j k t u ps (coin {i = i} {x = y} {T = T} {a = a} {b = b} e n le g) l m = unmade Anywhere rs i k b u ps g l (unmade_node x ps (New y T) a b m).second
  unmade w rs j k t u ps (key {i = i} {x = y} {T = T} {a = a} {b = b} {d = d} e n le g) l m =
      let o = unmade_node x ps (New y T) a b m in
      node_unmade x ps (Key y) Empty d refl (other_name x y T a o.here) (empty_unmade x ps) (unmade Anywhere rs i k b d ps g l o.second)
  unmade w rs j k t u ps (statement {k = i} {h = h} {a = a} {b = b} {c = c} {d = d} s v z g cs) l m =
      let n = unmade_node x ps h a b m in
      let o = ordered r _ _ i k b d g in
      calls_unmade (Node h c d) u ps j i cs (omega (arith, o, l)) (node_unmade x ps h c d (s.made x ∙ n.here) n.untyped (still_unmade x ps c z) (unmade _ _ i k b d (parameters_below h ps) g l n.second))

  pub variables_unmade : (t u : Tree) → Becomes r Anywhere [] 0 (length (sites r)) t u → is_variable t x ≡ false → is_variable u x ≡ false
  variables_unmade t u b e =
      let p = or_parts (is_some (first_site x [] t)) (is_untyped_in x t) e in
      let m = unmade Anywhere [] 0 (length (sites r)) t u [] b (omega arith) (go (first_site x [] t) p.0, p.1) in
      ap₂ ◌||◌ (ap is_some m.0) m.1
    where
      go : (o : Option Variable) → is_some o ≡ false → o ≡ None
      go None e = refl
      go (Some v) e = absurd (both_ways _ e refl)
