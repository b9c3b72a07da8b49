-- Visits of both runs pair the same, since what a copy reads to find its draw is none of the variables.
use Rattle.std.proofs.Common.{◌≡◌, ℕ, ◌==◌, ◌&&◌, Bool, true, false, cond, not, List, [], ◌∷◌, ◌++◌, Option, Some, None, refl, sym, ap, ap₂, subst, ◌∙◌, eqb-true}
use Rattle.std.proofs.lemmas.Bool.{both_ways, and_parts}
use Rattle.std.specs.List.{AllByRecursion, list_any}
use Rattle.cv_syntax_trees.specs.lists.Options.{first_of}
use Rattle.cv_syntax_trees.proofs.lists.Options.{first_of_none, some_none}
use Rattle.cv_syntax_trees.specs.declared.head.Head.{Head}
use Rattle.cv_syntax_trees.specs.declared.head.Head.TheVariants.{Leaf, Let, Read}
use Rattle.cv_syntax_trees.specs.Tree.{Tree, Empty, Node, first, first_place, second_place}
use Rattle.cv_meaning.specs.Interpretation.{Setting}
use Rattle.cv_meaning.specs.Memory.{Local, tuple}
use Rattle.cv_meaning.specs.Runs.{Adversary, Mode}
use Rattle.cv_meaning.specs.Serving.{Visit}
use Rattle.cv_meaning.specs.Tapes.{Cell, New_at, Tape}
use Rattle.cv_meaning.specs.Terms.{values, values_here}
use Rattle.cv_meaning.specs.Experiments.{visits_of_run}
use Rattle.cv_meaning_runs.specs.Placed.{IsPassedDown, VisitHas}
use Rattle.cv_meaning_runs.specs.Simulation.{InOrder}
use Rattle.cv_meaning_runs.proofs.Placed.{visits_have}
use Rattle.cv_meaning_chances.proofs.unread.Unread.{values_same}
use Rattle.cv_scope_rules.specs.declared.position.Position.{Position}
use Rattle.cv_scope_rules.specs.declared.position.Position.TheVariants.{Anywhere}
use Rattle.cv_scope_rules.specs.Context.{first_position, second_position}
use Rattle.cv_scope_rules.specs.Phrases.{Phrase, Body, Inputs, Term, both_are, is_phrase, parts}
use Rattle.cv_query_certificates.specs.Secrets.{first_other_read, is_let_of, reads_value}
use Rattle.cv_costs.specs.quiet.Twins.{AreVisitsRelated, Link}
use Rattle.cv_costs.proofs.quiet.Shapes.{ReadsNone, free_term, one_of}
use Rattle.cv_query_secrets.proofs.sessions.Exchange.{Pair}
use Rattle.cv_query_secrets.proofs.sessions.Links.{drawn_by, pair_at, pairs_of, with_tuple}

module _ (x : ℕ) (ys : List ℕ) where
  -- the tree is a phrase in which no value of the variables is read, but by copies
  pub record IsOpen (p : ℕ) (b : Tree) : Type 0 where
    pub phrase : Phrase
    pub is : is_phrase phrase b ≡ true
    pub position : Position
    pub free : Bool
    pub place : ℕ
    pub unread : first_other_read x ys free position place b ≡ None

  both_parts : (o : Option (Phrase × Phrase)) (a b : Tree) → both_are o (λ τ. is_phrase τ a) (λ ρ. is_phrase ρ b) ≡ true → (q : Phrase × Phrase) × (is_phrase q.0 a ≡ true) × (is_phrase q.1 b ≡ true)
  both_parts None a b e = absurd (both_ways false refl e)
  both_parts (Some q) a b e = let k = and_parts (is_phrase q.0 a) (is_phrase q.1 b) e in (q, k.0, k.1)

  not_here : (b : Bool) (p : ℕ) (o : Option ℕ) → cond b (Some p) o ≡ None → o ≡ None
  not_here true p o e = absurd (some_none p e)
  not_here false p o e = e

  open_down : IsPassedDown IsOpen
  unfolding is_phrase first_other_read
  open_down p h a b o =
      let k = both_parts (parts o.phrase h) a b o.is in
      let u = first_of_none (first_other_read x ys (is_let_of x h) (first_position o.position h) (first_place o.place h) a) (first_other_read x ys false (second_position o.position h) (second_place o.place h a) b)
      (not_here (not o.free && list_any (λ y. reads_value y o.position h) ys) o.place _ o.unread) in (
        record { phrase = k.0.0; is = k.1; position = first_position o.position h; free = is_let_of x h; place = first_place o.place h; unread = u.0 },
        record { phrase = k.0.1; is = k.2; position = second_position o.position h; free = false; place = second_place o.place h a; unread = u.1 },
      )

  let_term : (σ : Phrase) (z T : ℕ) (a b : Tree) → is_phrase σ (Node (Let z T) a b) ≡ true → is_phrase Term a ≡ true
  unfolding is_phrase
  let_term Body z T a b e = (and_parts (is_phrase Term a) (is_phrase Body b) e).0
  let_term σ z T a b e = absurd (both_ways false refl e)

  -- the indices of the term of a copy
  indices_unread : (p z T : ℕ) (a b : Tree) → IsOpen p (Node (Let z T) a b) → (z == x) ≡ true → ReadsNone x ys (first a)
  unfolding first_other_read
  indices_unread p z T a b o e =
      let u = first_of_none (first_other_read x ys (z == x) Anywhere (first_place o.place (Let z T)) a) (first_other_read x ys false Anywhere (second_place o.place (Let z T) a) b)
      (not_here (not o.free && list_any (λ y. reads_value y o.position (Let z T)) ys) o.place _ o.unread) in
      free_term x ys (first_place o.place (Let z T)) a (let_term o.phrase z T a b o.is) (subst (λ f. first_other_read x ys f Anywhere (first_place o.place (Let z T)) a ≡ None) e u.0)

  module _ (g : Setting) (K : Link) where
    abbrev Related : Visit → Visit → Type 0
    Related = AreVisitsRelated (one_of x ys) K

    draw_same : (v w : Visit) → Related v w → (m : Tree) → ReadsNone x ys (first m) → drawn_by g m v.before ≡ drawn_by g m w.before
    draw_same v w r (Node (Leaf y) a b) e = refl
    draw_same v w r (Node (Read y) ms b) e =
        ap (λ us. Some (New_at y us))
        (values_same g v.before.indices (one_of x ys) v.before.memory.store w.before.memory.store r.memory.store.others ms e ∙ ap (λ at. values g at w.before.memory.store ms) r.indices)
    draw_same v w r m e = refl

    pair_same_at : (v w : Visit) → Related v w → (p : ℕ) (t : Tree) → IsOpen p t → pair_at g x t v.before ≡ pair_at g x t w.before
    pair_same_at v w r p (Node (Let z T) m b) o = go (z == x) refl
      where
        go : (c : Bool) → (z == x) ≡ c → cond c (with_tuple (tuple v.before.indices) (drawn_by g m v.before)) [] ≡ cond c (with_tuple (tuple w.before.indices) (drawn_by g m w.before)) []
        go true e = ap₂ with_tuple (ap tuple r.indices) (draw_same v w r m (indices_unread p z T m b o e))
        go false e = refl
    pair_same_at v w r p t o = refl

    pair_same : (v w : Visit) → Related v w → VisitHas IsOpen v → pair_at g x v.tree v.before ≡ pair_at g x w.tree w.before
    pair_same v w r o = pair_same_at v w r v.place v.tree o ∙ ap (λ t. pair_at g x t w.before) r.tree

    pub pairs_same : (vs ws : List Visit) → InOrder Related vs ws → AllByRecursion (VisitHas IsOpen) vs → pairs_of g x vs ≡ pairs_of g x ws
    unfolding pairs_of
    pairs_same [] [] h o = refl
    pairs_same [] (w ∷ ws) h o = absurd h
    pairs_same (v ∷ vs) [] h o = absurd h
    pairs_same (v ∷ vs) (w ∷ ws) h o = ap₂ ◌++◌ (pair_same v w h.0 o.0) (pairs_same vs ws h.1 o.1)

  pub visits_open : (g : Setting) (m : Mode) (a : Adversary) (game : Tree) (t : Tape) → is_phrase Inputs game ≡ true → first_other_read x ys false Anywhere 0 game ≡ None → AllByRecursion (VisitHas IsOpen) (visits_of_run g m a game t)
  visits_open g m a game t e u = visits_have IsOpen g m a game t open_down (record { phrase = Inputs; is = e; position = Anywhere; free = false; place = 0; unread = u })
