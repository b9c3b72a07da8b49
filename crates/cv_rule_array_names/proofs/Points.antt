-- What both services know where they go together: the names of cells around, as the run goes down the game.
use Rattle.std.proofs.Common.{◌≡◌, ℕ, ◌<◌, ◌==◌, ◌||◌, Bool, true, false, cond, List, [], ◌∷◌, ◌++◌, flat_map, inl, inr, Some, refl, sym, ap, subst, ◌∙◌, eq-eqb, eqb-true}
use Rattle.std.proofs.lemmas.Bool.{and_parts, both_ways}
use Rattle.std.specs.List.{AllByRecursion}
use Rattle.cv_syntax_trees.proofs.lists.Each.{AllByRecursion_weaker}
use Rattle.cv_syntax_trees.specs.declared.head.Head.{Head}
use Rattle.cv_syntax_trees.specs.declared.head.Head.TheVariants.{Binder, In, Par, Read, Repl}
use Rattle.cv_syntax.specs.Layouts.{IsSyntax}
use Rattle.cv_syntax_trees.specs.Tree.{Tree, Empty, Node, second}
use Rattle.cv_meaning.specs.Interpretation.{Setting}
use Rattle.cv_meaning.specs.Memory.{Happened, Indices, Local, Store, tuple}
use Rattle.cv_meaning.specs.Binders.{fits}
use Rattle.cv_meaning.specs.Candidates.{below}
use Rattle.cv_meaning.specs.Inputs.{Input, inputs_of, message_binders}
use Rattle.cv_meaning.specs.Serving.{Visit}
use Rattle.cv_meaning_runs.specs.Listed.{has_no_calls, head_is_no_call}
use Rattle.cv_meaning_runs.specs.Simulation.{InOrder}
use Rattle.cv_meaning_runs.proofs.Copies.{all_below}
use Rattle.cv_meaning_runs.proofs.Simulation.{in_order_append}
use Rattle.cv_scope_rules.specs.Context.{Context, cell_of, cells_of}
use Rattle.cv_scope_rules.specs.Made.{AssignsNew, OwnUnassigned, is_bound, made_at, made_by}
use Rattle.cv_scope_rules.specs.Phrases.{Phrase, Inputs}
use Rattle.cv_scope_rules.specs.Rules.{IsAmong}
use Rattle.cv_scope_rules.specs.Sites.{Variable}
use Rattle.cv_scope_runs.specs.Reads.{IsKept}
use Rattle.cv_scope_runs.proofs.Contexts.{CellHolds, Holds, Matches, holds_kept, push_extends, push_matches}
use Rattle.cv_scope_runs.proofs.Games.{Game, new_index}
use Rattle.cv_scope_runs.proofs.ServeRuns.{VisitHolds}
use Rattle.cv_scope_runs.proofs.Standing.{Stands, in_first, in_second, root, second_below, stands_known}
use Rattle.cv_scope_runs.proofs.TermsLater.{Extends, values_kept}
use Rattle.cv_edit_names.specs.Naming.{Naming, name_at}
use Rattle.cv_edit_names.specs.Splitting.{Around, behind, in_replication, message_with_name, split_in}
use Rattle.cv_rule_array_names.proofs.Arms.{fits_renamed}
use Rattle.cv_rule_array_names.proofs.Around.{IsAround, IsTold, among_holds, own_cell, own_tuple}
use Rattle.cv_rule_array_names.proofs.Finds.{IsSplitting}
use Rattle.cv_rule_array_names.proofs.Values.{AreVariables, Unread, tuple_in, unread_first, unread_second}

in_order_below : {A B : Type 0} {C : Type 0} (R : A → B → Type 0) (P : C → Type 0) (f : C → List A) (h : C → List B) → ((c : C) → P c → InOrder R (f c) (h c)) → (cs : List C) → AllByRecursion P cs → InOrder R (flat_map f cs) (flat_map h cs)
in_order_below R P f h each [] a = tt
in_order_below R P f h each (c ∷ cs) a = in_order_append R _ _ _ _ (each c a.0) (in_order_below R P f h each cs a.1)

pub fits_message : (n : Naming) (p : ℕ) (size : ℕ → ℕ) (a : Tree) (vs : List ℕ) → fits size (second a) vs ≡ fits size (second (message_with_name n p a)) vs
fits_message n p size Empty vs = refl
fits_message n p size (Node h is bs) vs = fits_renamed n.variable (name_at n p) size bs vs

no_calls_first : (h : Head) (a b : Tree) → has_no_calls (Node h a b) ≡ true → has_no_calls a ≡ true
no_calls_first h a b e = (and_parts (has_no_calls a) _ (and_parts (head_is_no_call h) _ e).1).0

no_calls_second : (h : Head) (a b : Tree) → has_no_calls (Node h a b) ≡ true → has_no_calls b ≡ true
no_calls_second h a b e = (and_parts (has_no_calls a) _ (and_parts (head_is_no_call h) _ e).1).1

pub stands_no_calls : (game : Tree) → has_no_calls game ≡ true → {p : ℕ} {σ : Phrase} {Γ : Context} {b : Tree} → Stands game p σ Γ b → has_no_calls b ≡ true
stands_no_calls game f root = f
stands_no_calls game f (in_first {h = h} {a = a} {b = b} q st) = no_calls_first h a b (stands_no_calls game f st)
stands_no_calls game f (in_second {h = h} {a = a} {b = b} q st) = no_calls_second h a b (stands_no_calls game f st)

pub bound_among : (rs : List (ℕ × ℕ)) (bs : Tree) (y : ℕ) → is_bound bs y ≡ true → IsAmong (cell_of rs y) (cells_of rs bs)
unfolding is_bound
bound_among rs (Node (Binder z T) a b) y e = go (y == z) refl (bound_among rs b y) e
  where
    go : (c : Bool) → (y == z) ≡ c → (is_bound b y ≡ true → IsAmong (cell_of rs y) (cells_of rs b)) → (c || is_bound b y) ≡ true → IsAmong (cell_of rs y) (cell_of rs z ∷ cells_of rs b)
    go true i ih k = inl (ap (cell_of rs) (eqb-true y z i))
    go false i ih k = inr (ih k)
bound_among rs bs y e = absurd (both_ways false refl e)

module _ (g : Setting) (variable : ℕ → Bool) (game : Tree) (fine : Game g variable game) (n : Naming) (p : IsSplitting game n) (o : List ℕ → ℕ) (end : Store) where
  abbrev x : ℕ
  x = n.variable

  abbrev ys : List ℕ
  ys = n.names

  abbrev pub AroundAt : Around → Context → Indices → Type 0
  AroundAt e Γ at = IsAround g variable x o end e Γ at

  -- what is expected of a visit of the first run
  pub record IsExpected (v : Visit) : Type 0 where
    pub holds : VisitHolds g variable game fine v
    pub new : AssignsNew v
    pub own : OwnUnassigned v
    pub kept : IsKept v.before.memory.store end
    pub owned : made_at v.tree (Variable x) ≡ true → o (tuple v.before.indices) ≡ name_at n v.place
    pub vars : AreVariables g x ys v.before.indices

  -- what is known above the visited node
  pub record HoldsHere (Γ : Context) (s : Local) : Type 0 where
    pub matches : Matches g variable Γ.replications s.indices
    pub holds : Holds g variable Γ s.indices s.memory.store s.memory.events

  pub holds_here : (q : ℕ) (σ : Phrase) (Γ : Context) (t : Tree) (s : Local) → IsSyntax t → Stands game q σ Γ t → IsExpected (record { place = q; tree = t; before = s }) → HoldsHere Γ s
  holds_here q σ Γ t s i st ex =
      let here : Some ex.holds.above ≡ Some Γ = sym (stands_known game q ex.holds.phrase ex.holds.above t i ex.holds.stands) ∙ stands_known game q σ Γ t i st in
      let same : ex.holds.above ≡ Γ = cc in
      record { matches = subst (λ (Δ : Context). Matches g variable Δ.replications s.indices) same ex.holds.matches; holds = subst (λ (Δ : Context). Holds g variable Δ s.indices s.memory.store s.memory.events) same ex.holds.holds }

  -- further down

  told_down : (Γ Δ : Context) → ((t : Tree) → IsAmong t Γ.cells → IsAmong t Δ.cells) → (at : Indices) (d : Tree × ℕ) → IsTold g variable x o end Γ at d → IsTold g variable x o end Δ at d
  told_down Γ Δ sub at d t = record { cell = t.cell; among = sub d.0 t.among; owner = t.owner }

  pub around_down : (Γ Δ : Context) → Δ.replications ≡ Γ.replications → ((t : Tree) → IsAmong t Γ.cells → IsAmong t Δ.cells) → (at : Indices) (e : Around) → AroundAt e Γ at → AroundAt e Δ at
  around_down Γ Δ same sub at e ar = record {
    replications = ar.replications ∙ sym same;
    looked_for = AllByRecursion_weaker (IsTold g variable x o end Γ at) (IsTold g variable x o end Δ at) (told_down Γ Δ sub at) e.looked_for ar.looked_for;
    defined = AllByRecursion_weaker (IsTold g variable x o end Γ at) (IsTold g variable x o end Δ at) (told_down Γ Δ sub at) e.defined ar.defined;
  }

  -- behind a definition its own cell has its name
  pub around_behind : (Γ Δ : Context) → Δ.replications ≡ Γ.replications → ((t : Tree) → IsAmong t Γ.cells → IsAmong t Δ.cells) → (q : ℕ) (h : Head) (a : Tree) (at : Indices) → Matches g variable Γ.replications at
      → (made_by h a (Variable x) ≡ true → IsAmong (cell_of Γ.replications x) Δ.cells) → (made_by h a (Variable x) ≡ true → o (tuple at) ≡ name_at n q) → (e : Around) → AroundAt e Γ at → AroundAt (behind n q h a e) Δ at
  around_behind Γ Δ same sub q h a at k among owned e ar = go (made_by h a (Variable x)) refl
    where
      down : AroundAt e Δ at
      down = around_down Γ Δ same sub at e ar

      go : (b : Bool) → made_by h a (Variable x) ≡ b → AroundAt (cond b (record e { defined = (cell_of e.replications x, name_at n q) ∷ [] }) e) Δ at
      go true i = record {
        replications = down.replications;
        looked_for = down.looked_for;
        defined = (
          record {
            cell = own_cell x e.replications ∙ eq-eqb x x refl;
            among = subst (λ rs. IsAmong (cell_of rs x) Δ.cells) (sym ar.replications) (among i);
            owner = ap (λ rs. o (tuple_in g at end (cell_of rs x))) ar.replications ∙ ap o (own_tuple g variable x Γ.replications at end k) ∙ owned i;
          },
          tt,
        );
      }
      go false i = down

  -- more replications

  tuple_pushed : (at : Indices) (m : Store) (bt : Indices) → Extends g variable at m bt m → (c : Tree) → CellHolds g variable at m c → tuple_in g bt m c ≡ tuple_in g at m c
  tuple_pushed at m bt e Empty h = refl
  tuple_pushed at m bt e (Node (Read z) a b) h = values_kept g variable at m bt m e a h.readable.1
  tuple_pushed at m bt e (Node k a b) h = refl

  around_pushed : (Γ : Context) (at : Indices) (es : List Happened) (i k v : ℕ) (a : Tree) → Holds g variable Γ at end es → Extends g variable at end (at ++ (i, v) ∷ []) end → (e : Around) → AroundAt e Γ at → AroundAt (in_replication (Repl i k) e) (second_below Inputs (Repl i k) a Γ) (at ++ (i, v) ∷ [])
  around_pushed Γ at es i k v a h ext e ar = record {
    replications = ap (λ rs. rs ++ (i, k) ∷ []) ar.replications;
    looked_for = AllByRecursion_weaker (IsTold g variable x o end Γ at) (IsTold g variable x o end (second_below Inputs (Repl i k) a Γ) (at ++ (i, v) ∷ [])) pushed e.looked_for ar.looked_for;
    defined = AllByRecursion_weaker (IsTold g variable x o end Γ at) (IsTold g variable x o end (second_below Inputs (Repl i k) a Γ) (at ++ (i, v) ∷ [])) pushed e.defined ar.defined;
  }
    where
      pushed : (d : Tree × ℕ) → IsTold g variable x o end Γ at d → IsTold g variable x o end (second_below Inputs (Repl i k) a Γ) (at ++ (i, v) ∷ []) d
      pushed d t = record {
        cell = t.cell;
        among = t.among;
        owner = ap o (tuple_pushed at end (at ++ (i, v) ∷ []) ext d.0 (among_holds (CellHolds g variable at end) d.0 Γ.cells t.among h.cells)) ∙ t.owner;
      }

  -- inputs of both games
  pub record AreLikeInputs (i j : Input) : Type 0 where
    pub channel : i.channel ≡ j.channel
    pub indices : i.indices ≡ j.indices
    pub message : (vs : List ℕ) → fits g.interpretation.type_size (message_binders i) vs ≡ fits g.interpretation.type_size (message_binders j) vs
    pub above : Context
    pub stands : Stands game i.place Inputs above i.tree
    pub around : Around
    pub names : AroundAt around above i.indices
    pub tree : j.tree ≡ split_in n around i.place i.tree
    pub unread : Unread x j.tree

  pub opened_alike : (b : Tree) (q r : ℕ) (Γ : Context) (at : Indices) (es : List Happened) (e : Around) → Stands game q Inputs Γ b → Matches g variable Γ.replications at → Holds g variable Γ at end es → AroundAt e Γ at → Unread x (split_in n e q b)
      → InOrder AreLikeInputs (inputs_of g b q at) (inputs_of g (split_in n e q b) r at)
  unfolding inputs_of split_in
  opened_alike Empty q r Γ at es e st k h ar u = tt
  opened_alike (Node Par a b) q r Γ at es e st k h ar u =
      in_order_append AreLikeInputs _ _ _ _ (opened_alike a _ _ Γ at es e (in_first refl st) k h ar (unread_first x Par _ _ u)) (opened_alike b _ _ Γ at es e (in_second refl st) k h ar (unread_second x Par _ _ u))
  opened_alike (Node (Repl i m) a b) q r Γ at es e st k h ar u =
      in_order_below AreLikeInputs (λ v. v < g.interpretation.parameter_value m) _ _
      (λ v l.
      let new = new_index g variable game fine st in
      let ext : Extends g variable at end (at ++ (i, v) ∷ []) end = push_extends g variable Γ at end i v new in
      let kept = holds_kept g variable Γ at end (at ++ (i, v) ∷ []) end es es ext (λ e h. h) h in
      opened_alike b _ _ (second_below Inputs (Repl i m) a Γ) (at ++ (i, v) ∷ []) es (in_replication (Repl i m) e) (in_second refl st) (push_matches g variable Γ at i m v new l k)
      (record { cells = kept.cells; own = kept.own; facts = kept.facts; events = kept.events }) (around_pushed Γ at es i m v a h ext e ar) (unread_second x (Repl i m) _ _ u))
      (below (g.interpretation.parameter_value m)) (all_below (g.interpretation.parameter_value m))
  opened_alike (Node (In c) a b) q r Γ at es e st k h ar u = (
    record { channel = refl; indices = refl; message = λ vs. fits_message n q g.interpretation.type_size a vs; above = Γ; stands = st; around = e; names = ar; tree = refl; unread = u },
    tt,
  )
  opened_alike (Node h a b) q r Γ at es e st k i ar u = tt
