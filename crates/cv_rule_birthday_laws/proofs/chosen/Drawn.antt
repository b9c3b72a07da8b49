-- In a run each value of a variable that `new` alone defines is that of its cell on the tape.
use Rattle.std.proofs.Common.{◌≡◌, ℕ, zero, suc, ◌&&◌, ◌||◌, not, ◌==◌, Bool, true, false, cond, List, [], ◌∷◌, ◌++◌, Option, Some, None, refl, sym, ap₂, ◌∙◌, eqb-true}
use Rattle.std.proofs.lemmas.Bool.{both_ways, and_parts, not-true}
use Rattle.std.specs.List.{AllByRecursion}
use Rattle.cv_syntax_trees.specs.declared.head.Head.{Head}
use Rattle.cv_syntax_trees.specs.declared.head.Head.TheVariants.{Branch, Call, Cons, Event, Find, If, In, Key, Let, New, Out, Par, Repl}
use Rattle.cv_syntax_trees.specs.Tree.{Tree, Empty, Node, first_place, second, second_place}
use Rattle.cv_meaning.specs.Binders.{bound_to}
use Rattle.cv_meaning.specs.Candidates.{Candidate, below, candidates, chosen}
use Rattle.cv_meaning.specs.Inputs.{Input, inputs_of}
use Rattle.cv_meaning.specs.Interpretation.{Setting}
use Rattle.cv_meaning.specs.Memory.{Indices, Local, Memory, Store, put, tuple}
use Rattle.cv_meaning.specs.Runs.{Adversary, Mode}
use Rattle.cv_meaning.specs.Serving.{Visit, after_find, oracle_call, step}
use Rattle.cv_meaning.specs.Tapes.{Find_at, New_at, Tape, same_tuple}
use Rattle.cv_meaning.specs.Terms.{value_here}
use Rattle.cv_meaning.specs.Experiments.{run, visits_of_run}
use Rattle.cv_meaning_laws.proofs.Counts.{same_tuple_exact}
use Rattle.cv_meaning_laws.proofs.Lists.{each_flat_map}
use Rattle.cv_meaning_chances.specs.alignment.Points.{Point, turn_at}
use Rattle.cv_scope_rules.specs.Made.{is_bound, made_by}
use Rattle.cv_scope_rules.specs.Sites.{Variable}
use Rattle.cv_scope_runs.proofs.Contexts.{put_other}
use Rattle.cv_syntax_trees.proofs.lists.Each.{AllByRecursion_append, AllByRecursion_weaker}
use Rattle.cv_scene.specs.Scenes.{has_news_alone, is_new_head}
use Rattle.cv_costs.proofs.wording.Branches.{bound_other}
use Rattle.cv_costs.proofs.wording.Reworded.{news_first, news_second}
use Rattle.cv_rule_codef.specs.kept.Kept.{HasIt, IsKept, Keeps}
use Rattle.cv_rule_codef.proofs.kept.Keeping.{game_keeps}

-- what a node other than `new` makes is another variable
news_here : (x : ℕ) (h : Head) (a b : Tree) → has_news_alone x (Node h a b) ≡ true → (is_new_head h || not (made_by h a (Variable x))) ≡ true
unfolding has_news_alone
news_here x h a b e = (and_parts (is_new_head h || not (made_by h a (Variable x))) (has_news_alone x a && has_news_alone x b) e).0

module _ (x : ℕ) (g : Setting) (t : Tape) where
  -- of a store
  abbrev pub AreOfTape : Store → Type 0
  AreOfTape m = (w : List ℕ) (v : ℕ) → m x w ≡ Some v → v ≡ t (New_at x w)

  abbrev Holds : Memory → Type 0
  Holds m = AreOfTape m.store

  abbrev Opens : Input → Type 0
  Opens i = has_news_alone x i.tree ≡ true

  abbrev Stays : Point → Local → Type 0
  Stays p s = (has_news_alone x p.tree ≡ true) × AreOfTape s.memory.store

  -- another variable gets a value
  put_apart : (m : Store) (z : ℕ) (u : List ℕ) (k : ℕ) → (x == z) ≡ false → AreOfTape m → AreOfTape (put m z u k)
  put_apart m z u k n h w v e = h w v (sym (put_other m z u k x w (λ i j. both_ways (x == z) n i)) ∙ e)

  bound_apart : (m : Store) (u : List ℕ) (bs : Tree) (vs : List ℕ) → is_bound bs x ≡ false → AreOfTape m → AreOfTape (bound_to m u bs vs)
  bound_apart m u bs vs n h w v e = h w v (sym (bound_other m u bs vs x w n) ∙ e)

  -- a variable is drawn
  put_drawn : (m : Store) (z : ℕ) (u : List ℕ) → AreOfTape m → AreOfTape (put m z u (t (New_at z u)))
  unfolding put
  put_drawn m z u h w v e = go (x == z) (same_tuple w u) refl refl e
    where
      go : (b c : Bool) → (x == z) ≡ b → same_tuple w u ≡ c → cond (b && c) (Some (t (New_at z u))) (m x w) ≡ Some v → v ≡ t (New_at x w)
      go true true i j f = let q : t (New_at z u) ≡ v = cc in sym q ∙ ap₂ (λ y o. t (New_at y o)) (sym (eqb-true x z i)) (sym (same_tuple_exact w u j))
      go true false i j f = h w v f
      go false c i j f = h w v f

  inputs_open : (b : Tree) (p : ℕ) (at : Indices) → has_news_alone x b ≡ true → AllByRecursion Opens (inputs_of g b p at)
  unfolding inputs_of
  inputs_open Empty p at f = tt
  inputs_open (Node Par a b) p at f = AllByRecursion_append Opens (inputs_of g a (first_place p Par) at) _ (inputs_open a (first_place p Par) at (news_first x Par a b f)) (inputs_open b (second_place p Par a) at (news_second x Par a b f))
  inputs_open (Node (Repl i n) a b) p at f = each_flat_map Opens _ (below (g.interpretation.parameter_value n)) (λ v. inputs_open b (second_place p (Repl i n) a) (at ++ (i, v) ∷ []) (news_second x (Repl i n) a b f))
  inputs_open (Node (In c) a b) p at f = (f, tt)
  inputs_open (Node h a b) p at f = tt

  goes_on : (h : Head) (a b : Tree) (p k : ℕ) (vs : List ℕ) (s : Local) → has_news_alone x (Node h a b) ≡ true → AreOfTape s.memory.store → Keeps Holds Opens Stays (record { tree = Node h a b; place = p; number = k; bound = vs }) (step g t h a b p k vs s)
  unfolding step
  goes_on (In c) a b p k vs s f q = (news_second x (In c) a b f, bound_apart s.memory.store (tuple s.indices) (second a) vs (not-true _ (news_here x (In c) a b f)) q)
  goes_on (New z T) a b p k vs s f q = (news_second x (New z T) a b f, put_drawn s.memory.store z (tuple s.indices) q)
  goes_on (Let z T) a b p k vs s f q = (news_second x (Let z T) a b f, put_apart s.memory.store z (tuple s.indices) (value_here g s a) (not-true _ (news_here x (Let z T) a b f)) q)
  goes_on (Event e) a b p k vs s f q = (news_second x (Event e) a b f, q)
  goes_on If a b p k vs s f q = (news_second x If a b f, q)
  goes_on (Find l) a b p k vs s f q = go (chosen (candidates g s.indices s.memory.store a) (t (Find_at l (tuple s.indices))))
    where
      go : (o : Option Candidate) → Keeps Holds Opens Stays (record { tree = Node (Find l) a b; place = p; number = k; bound = vs }) (after_find s o)
      go None = (news_second x (Find l) a b f, q)
      go (Some c) = (news_first x (Find l) a b f, q)
  goes_on Branch a b p k vs s f q = (news_second x Branch a b f, bound_apart s.memory.store (tuple s.indices) a vs (not-true _ (news_here x Branch a b f)) q)
  goes_on (Key z) a b p k vs s f q = (news_second x (Key z) a b f, put_apart s.memory.store z (tuple s.indices) 0 (not-true _ (news_here x (Key z) a b f)) q)
  goes_on (Call z l) a b p k vs s f q = (news_second x (Call z l) a b f, put_apart s.memory.store z (tuple s.indices) (g.side.reply t s.memory.arrays (oracle_call g s l a)).value (not-true _ (news_here x (Call z l) a b f)) q)
  goes_on Cons a b p zero vs s f q = (news_first x Cons a b f, q)
  goes_on Cons a b p (suc k) vs s f q = (news_second x Cons a b f, q)
  goes_on (Out c) a b p k vs s f q = (q, inputs_open b (second_place p (Out c) a) s.indices (news_second x (Out c) a b f))
  goes_on h a b p k vs s f q = (q, tt)

  goes : (p : Point) (s : Local) → Stays p s → Keeps Holds Opens Stays p (turn_at g t p s)
  goes p s h = go p.tree p.place p.number p.bound h
    where
      go : (b : Tree) (q k : ℕ) (vs : List ℕ) → (has_news_alone x b ≡ true) × AreOfTape s.memory.store → Keeps Holds Opens Stays (record { tree = b; place = q; number = k; bound = vs }) (turn_at g t (record { tree = b; place = q; number = k; bound = vs }) s)
      go Empty q k vs z = (z.1, tt)
      go (Node i a b) q k vs z = goes_on i a b q k vs s z.0 z.1

  kept : (game : Tree) → has_news_alone x game ≡ true → IsKept Holds Opens Stays g t game
  kept game f = record {
    memory = λ w v e. absurd (cc);
    inputs = inputs_open game 0 [] f;
    begun = λ i m vs e b n. (e, b);
    goes = goes;
  }

  -- at each visit and at the end

  pub drawn_at_visits : (m : Mode) (a : Adversary) (game : Tree) → has_news_alone x game ≡ true → AllByRecursion (λ (v : Visit). AreOfTape v.before.memory.store) (visits_of_run g m a game t)
  drawn_at_visits m a game f =
      AllByRecursion_weaker (HasIt Stays) (λ (v : Visit). AreOfTape v.before.memory.store) (λ v h. h.2.1) _ (game_keeps g t game Holds Opens Stays (kept game f) m a).0

  pub drawn_at_end : (m : Mode) (a : Adversary) (game : Tree) → has_news_alone x game ≡ true → AreOfTape (run g m a game t).memory.store
  drawn_at_end m a game f = (game_keeps g t game Holds Opens Stays (kept game f) m a).1
