-- Where each definition of a variable is followed directly by one of another, the other is assigned wherever the first is, but for the
-- current copy before that definition.
use Rattle.std.proofs.Common.{◌≡◌, ℕ, zero, suc, ◌&&◌, ◌==◌, Bool, true, false, cond, List, [], ◌∷◌, ◌++◌, ◌⊎◌, inl, inr, Option, Some, None, is_some, refl, sym, ap, subst, ◌∙◌, eqb-true}
use Rattle.std.proofs.lemmas.Bool.{both_ways}
use Rattle.std.specs.List.{AllByRecursion}
use Rattle.cv_syntax_trees.specs.declared.head.Head.{Head}
use Rattle.cv_syntax_trees.specs.declared.head.Head.TheVariants.{Binder, Branch, Call, Cons, Event, Find, If, In, Key, Let, New, Out, Par, Repl}
use Rattle.cv_syntax_trees.specs.Tree.{Tree, Empty, Node, first_place, second, second_place}
use Rattle.cv_meaning.specs.Binders.{bound_to, with_bound}
use Rattle.cv_meaning.specs.Candidates.{Candidate, below, candidates, chosen}
use Rattle.cv_meaning.specs.Inputs.{Input, inputs_of}
use Rattle.cv_meaning.specs.Interpretation.{Setting}
use Rattle.cv_meaning.specs.Memory.{Indices, Local, Memory, Store, put, tuple, with_answer, with_event, with_value}
use Rattle.cv_meaning.specs.Runs.{Adversary, Mode}
use Rattle.cv_meaning.specs.Serving.{after_find, oracle_call, step, Visit}
use Rattle.cv_meaning.specs.Side.{OracleAnswer}
use Rattle.cv_meaning.specs.Tapes.{Find_at, New_at, Tape, same_tuple}
use Rattle.cv_meaning.specs.Terms.{is_one, value_here, values_here}
use Rattle.cv_meaning.specs.Experiments.{visits_of_run}
use Rattle.cv_meaning_laws.proofs.Lists.{each_flat_map}
use Rattle.cv_meaning_chances.specs.alignment.Points.{Point, turn_at}
use Rattle.cv_scope_rules.specs.Made.{is_bound, made_by}
use Rattle.cv_scope_rules.specs.Sites.{Variable}
use Rattle.cv_scope_runs.proofs.Contexts.{put_here}
use Rattle.cv_scope_runs.proofs.FreshRuns.{bound_made, put_made}
use Rattle.cv_scope_runs.proofs.TermsLater.{some_of}
use Rattle.cv_syntax_trees.proofs.lists.Each.{AllByRecursion_append, AllByRecursion_weaker}
use Rattle.cv_rule_codef.specs.Adjacent.{begins_with, following}
use Rattle.cv_rule_codef.specs.Standing.{AssignsAfter, AssignsAfterAt}
use Rattle.cv_rule_codef.specs.kept.Kept.{HasIt, IsKept, Keeps}
use Rattle.cv_rule_codef.proofs.kept.Keeping.{game_keeps}

-- what is assigned stays so

some_put : (m : Store) (x : ℕ) (u : List ℕ) (v z : ℕ) (w : List ℕ) → is_some (m z w) ≡ true → is_some (put m x u v z w) ≡ true
unfolding put
some_put m x u v z w e = go ((z == x) && same_tuple w u)
  where
    go : (b : Bool) → is_some (cond b (Some v) (m z w)) ≡ true
    go true = refl
    go false = e

some_bound : (m : Store) (u : List ℕ) (bs : Tree) (vs : List ℕ) (z : ℕ) (w : List ℕ) → is_some (m z w) ≡ true → is_some (bound_to m u bs vs z w) ≡ true
unfolding bound_to
some_bound m u (Node (Binder x T) a b) (v ∷ vs) z w e = some_bound (put m x u v) u b vs z w (some_put m x u v z w e)
some_bound m u bs vs z w e = e

-- nothing else is assigned

abbrev MadeOrThere : Store → (z : ℕ) → (u w : List ℕ) → Bool → Type 0
MadeOrThere m z u w made = (is_some (m z w) ≡ true) ⊎ ((made ≡ true) × (w ≡ u))

put_some : (m : Store) (x : ℕ) (u : List ℕ) (v z : ℕ) (w : List ℕ) → is_some (put m x u v z w) ≡ true → MadeOrThere m z u w (z == x)
put_some m x u v z w e = let r = some_of (put m x u v z w) e in go (put_made m x u v z w r.0 r.1)
  where
    go : {k : ℕ} → (m z w ≡ Some k) ⊎ (((z == x) ≡ true) × (w ≡ u)) → MadeOrThere m z u w (z == x)
    go (inl i) = inl (ap is_some i)
    go (inr i) = inr i

bound_some : (m : Store) (u : List ℕ) (bs : Tree) (vs : List ℕ) (z : ℕ) (w : List ℕ) → is_some (bound_to m u bs vs z w) ≡ true → MadeOrThere m z u w (is_bound bs z)
bound_some m u bs vs z w e = let r = some_of (bound_to m u bs vs z w) e in go (bound_made m u bs vs z w r.0 r.1)
  where
    go : {k : ℕ} → (m z w ≡ Some k) ⊎ ((is_bound bs z ≡ true) × (w ≡ u)) → MadeOrThere m z u w (is_bound bs z)
    go (inl i) = inl (ap is_some i)
    go (inr i) = inr i

module _ (x y : ℕ) where
  -- each construct of the tree that defines the first variable is followed directly by a `new` or a `let` of the second
  abbrev pub IsFollowed : Tree → Type 0
  IsFollowed Empty = Unit {0}
  IsFollowed (Node h a b) = (made_by h a (Variable x) ≡ true → begins_with y (following h b) ≡ true) × IsFollowed a × IsFollowed b

  -- the service comes to that definition, with the number of the body that it is to take
  abbrev awaits : ℕ → Tree → Bool
  awaits zero t = begins_with y t
  awaits (suc k) (Node Cons a b) = awaits k b
  awaits (suc k) t = false

  abbrev Ahead : ℕ → Tree → Local → Type 0
  Ahead k t s = (w : List ℕ) → is_some (s.memory.store x w) ≡ true → (is_some (s.memory.store y w) ≡ true) ⊎ ((w ≡ tuple s.indices) × (awaits k t ≡ true))

  abbrev Both : Memory → Type 0
  Both m = (w : List ℕ) → is_some (m.store x w) ≡ true → is_some (m.store y w) ≡ true

  abbrev Follows : Input → Type 0
  Follows i = IsFollowed i.tree

  abbrev There : Point → Local → Type 0
  There p s = IsFollowed p.tree × Ahead p.number p.tree s

  -- where nothing is awaited

  abbrev is_idle : Head → Bool
  is_idle (New z T) = false
  is_idle (Let z T) = false
  is_idle Cons = false
  is_idle h = true

  idle : (k : ℕ) (h : Head) (a b : Tree) → is_idle h ≡ true → awaits k (Node h a b) ≡ false
  idle zero (New z T) a b e = absurd (both_ways false refl e)
  idle zero (Let z T) a b e = absurd (both_ways false refl e)
  idle zero h a b e = refl
  idle (suc k) Cons a b e = absurd (both_ways false refl e)
  idle (suc k) h a b e = refl

  both : (k : ℕ) (t : Tree) (s : Local) → awaits k t ≡ false → Ahead k t s → Both s.memory
  both k t s e f w i = go (f w i)
    where
      go : (is_some (s.memory.store y w) ≡ true) ⊎ ((w ≡ tuple s.indices) × (awaits k t ≡ true)) → is_some (s.memory.store y w) ≡ true
      go (inl j) = j
      go (inr j) = absurd (both_ways (awaits k t) e j.1)

  ahead : (k : ℕ) (t : Tree) (s : Local) → Both s.memory → Ahead k t s
  ahead k t s f w i = inl (f w i)

  -- where a construct goes on behind itself
  record GoesBehind (h : Head) (a b : Tree) (k j : ℕ) (s n : Local) : Type 0 where
    copy : tuple n.indices ≡ tuple s.indices
    later : (w : List ℕ) → is_some (s.memory.store y w) ≡ true → is_some (n.memory.store y w) ≡ true
    made : (w : List ℕ) → is_some (n.memory.store x w) ≡ true → MadeOrThere s.memory.store x (tuple s.indices) w (made_by h a (Variable x))
    into : made_by h a (Variable x) ≡ true → begins_with y (following h b) ≡ true → awaits j b ≡ true
    done : awaits k (Node h a b) ≡ true → (is_some (n.memory.store y (tuple s.indices)) ≡ true) ⊎ (awaits j b ≡ true)

  behind : (h : Head) (a b : Tree) (k j : ℕ) (s n : Local) → GoesBehind h a b k j s n → IsFollowed (Node h a b) → Ahead k (Node h a b) s → IsFollowed b × Ahead j b n
  behind h a b k j s n g f q = (f.2, λ w e. go w (g.made w e))
    where
      end : (w : List ℕ) → w ≡ tuple s.indices → (is_some (n.memory.store y (tuple s.indices)) ≡ true) ⊎ (awaits j b ≡ true) → (is_some (n.memory.store y w) ≡ true) ⊎ ((w ≡ tuple n.indices) × (awaits j b ≡ true))
      end w e (inl i) = inl (ap (λ u. is_some (n.memory.store y u)) e ∙ i)
      end w e (inr i) = inr (e ∙ sym g.copy, i)

      before : (w : List ℕ) → (is_some (s.memory.store y w) ≡ true) ⊎ ((w ≡ tuple s.indices) × (awaits k (Node h a b) ≡ true)) → (is_some (n.memory.store y w) ≡ true) ⊎ ((w ≡ tuple n.indices) × (awaits j b ≡ true))
      before w (inl i) = inl (g.later w i)
      before w (inr i) = end w i.0 (g.done i.1)

      go : (w : List ℕ) → MadeOrThere s.memory.store x (tuple s.indices) w (made_by h a (Variable x)) → (is_some (n.memory.store y w) ≡ true) ⊎ ((w ≡ tuple n.indices) × (awaits j b ≡ true))
      go w (inl i) = before w (q w i)
      go w (inr i) = end w i.1 (inr (g.into i.0 (f.0 i.0)))

  -- nothing is assigned
  quiet : (h : Head) (a b : Tree) (k j : ℕ) (s n : Local) → n.indices ≡ s.indices → n.memory.store ≡ s.memory.store → is_idle h ≡ true → made_by h a (Variable x) ≡ false → GoesBehind h a b k j s n
  quiet h a b k j s n i m e f = record {
    copy = ap tuple i;
    later = λ w o. ap (λ (r : Store). is_some (r y w)) m ∙ o;
    made = λ w o. inl (sym (ap (λ (r : Store). is_some (r x w)) m) ∙ o);
    into = λ o. absurd (both_ways (made_by h a (Variable x)) f o);
    done = λ o. absurd (both_ways (awaits k (Node h a b)) (idle k h a b e) o);
  }

  -- a value is assigned to one variable
  module _ (h : Head) (a b : Tree) (z k v : ℕ) (s n : Local) (i : n.indices ≡ s.indices) (m : n.memory.store ≡ put s.memory.store z (tuple s.indices) v) (d : made_by h a (Variable x) ≡ (x == z)) (f : following h b ≡ b) where
    assigned : (awaits k (Node h a b) ≡ true → (z == y) ≡ true) → GoesBehind h a b k 0 s n
    assigned o = record {
      copy = ap tuple i;
      later = λ w e. ap (λ (r : Store). is_some (r y w)) m ∙ some_put s.memory.store z (tuple s.indices) v y w e;
      made = λ w e. subst (MadeOrThere s.memory.store x (tuple s.indices) w) (sym d) (put_some s.memory.store z (tuple s.indices) v x w (sym (ap (λ (r : Store). is_some (r x w)) m) ∙ e));
      into = λ e. λ c. ap (begins_with y) (sym f) ∙ c;
      done = λ e. inl (ap (λ (r : Store). is_some (r y (tuple s.indices))) m
          ∙ ap (λ r. is_some (put s.memory.store z (tuple s.indices) v r (tuple s.indices))) (sym (eqb-true z y (o e)))
          ∙ ap is_some (put_here s.memory.store z (tuple s.indices) v));
    }

  new_awaited : (k z T : ℕ) (a b : Tree) → awaits k (Node (New z T) a b) ≡ true → (z == y) ≡ true
  new_awaited zero z T a b e = e
  new_awaited (suc k) z T a b e = absurd (both_ways false refl e)

  let_awaited : (k z T : ℕ) (a b : Tree) → awaits k (Node (Let z T) a b) ≡ true → (z == y) ≡ true
  let_awaited zero z T a b e = e
  let_awaited (suc k) z T a b e = absurd (both_ways false refl e)

  not_awaited : (k z : ℕ) (h : Head) (a b : Tree) → is_idle h ≡ true → awaits k (Node h a b) ≡ true → (z == y) ≡ true
  not_awaited k z h a b e o = absurd (both_ways (awaits k (Node h a b)) (idle k h a b e) o)

  in_body : (b : Tree) → begins_with y (following Branch b) ≡ true → awaits 2 b ≡ true
  in_body (Node Cons cells (Node Cons c body)) e = e
  in_body t e = absurd (both_ways false refl e)

  inputs_follow : (g : Setting) (b : Tree) (p : ℕ) (at : Indices) → IsFollowed b → AllByRecursion Follows (inputs_of g b p at)
  unfolding inputs_of
  inputs_follow g Empty p at f = tt
  inputs_follow g (Node Par a b) p at f = AllByRecursion_append Follows (inputs_of g a (first_place p Par) at) _ (inputs_follow g a (first_place p Par) at f.1) (inputs_follow g b (second_place p Par a) at f.2)
  inputs_follow g (Node (Repl i n) a b) p at f = each_flat_map Follows _ (below (g.interpretation.parameter_value n)) (λ v. inputs_follow g b (second_place p (Repl i n) a) (at ++ (i, v) ∷ []) f.2)
  inputs_follow g (Node (In c) a b) p at f = (f, tt)
  inputs_follow g (Node h a b) p at f = tt

  module _ (g : Setting) (t : Tape) (game : Tree) where
    goes_on : (h : Head) (a b : Tree) (p k : ℕ) (vs : List ℕ) (s : Local) → IsFollowed (Node h a b) → Ahead k (Node h a b) s
        → Keeps Both Follows There (record { tree = Node h a b; place = p; number = k; bound = vs }) (step g t h a b p k vs s)
    unfolding step
    goes_on (In c) a b p k vs s f q = behind (In c) a b k 0 s (with_bound s (second a) vs) (record {
      copy = refl;
      later = λ w e. some_bound s.memory.store (tuple s.indices) (second a) vs y w e;
      made = λ w e. bound_some s.memory.store (tuple s.indices) (second a) vs x w e;
      into = λ e c. c;
      done = λ o. absurd (both_ways (awaits k (Node (In c) a b)) (idle k (In c) a b refl) o);
    }) f q
    goes_on (New z T) a b p k vs s f q = let v : ℕ = t (New_at z (tuple s.indices)) in behind (New z T) a b k 0 s (with_value s z v) (assigned (New z T) a b z k v s (with_value s z v) refl refl refl refl (new_awaited k z T a b)) f q
    goes_on (Let z T) a b p k vs s f q = let v : ℕ = value_here g s a in behind (Let z T) a b k 0 s (with_value s z v) (assigned (Let z T) a b z k v s (with_value s z v) refl refl refl refl (let_awaited k z T a b)) f q
    goes_on (Event e) a b p k vs s f q = let n : Local = with_event s e (values_here g s a) in behind (Event e) a b k 0 s n (quiet (Event e) a b k 0 s n refl refl refl refl) f q
    goes_on If a b p k vs s f q = let j : ℕ = cond (is_one (value_here g s a)) 0 1 in behind If a b k j s s (quiet If a b k j s s refl refl refl refl) f q
    goes_on (Find l) a b p k vs s f q = go (chosen (candidates g s.indices s.memory.store a) (t (Find_at l (tuple s.indices))))
      where
        go : (o : Option Candidate) → Keeps Both Follows There (record { tree = Node (Find l) a b; place = p; number = k; bound = vs }) (after_find s o)
        go None = behind (Find l) a b k 0 s s (quiet (Find l) a b k 0 s s refl refl refl refl) f q
        go (Some c) = (f.1, ahead c.branch a s (both k (Node (Find l) a b) s (idle k (Find l) a b refl) q))
    goes_on Branch a b p k vs s f q = behind Branch a b k 2 s (with_bound s a vs) (record {
      copy = refl;
      later = λ w e. some_bound s.memory.store (tuple s.indices) a vs y w e;
      made = λ w e. bound_some s.memory.store (tuple s.indices) a vs x w e;
      into = λ e c. in_body b c;
      done = λ o. absurd (both_ways (awaits k (Node Branch a b)) (idle k Branch a b refl) o);
    }) f q
    goes_on (Key z) a b p k vs s f q = behind (Key z) a b k 0 s (with_value s z 0) (assigned (Key z) a b z k 0 s (with_value s z 0) refl refl refl refl (not_awaited k z (Key z) a b refl)) f q
    goes_on (Call z l) a b p k vs s f q = let r : OracleAnswer = g.side.reply t s.memory.arrays (oracle_call g s l a) in behind (Call z l) a b k 0 s (with_answer s z r) (assigned (Call z l) a b z k r.value s (with_answer s z r) refl refl refl refl (not_awaited k z (Call z l) a b refl)) f q
    goes_on Cons a b p zero vs s f q = (f.1, ahead 0 a s (both 0 (Node Cons a b) s refl q))
    goes_on Cons a b p (suc k) vs s f q = (f.2, q)
    goes_on (Out c) a b p k vs s f q = (both k (Node (Out c) a b) s (idle k (Out c) a b refl) q, inputs_follow g b (second_place p (Out c) a) s.indices f.2)
    goes_on h a b p k vs s f q = (both k (Node h a b) s (idle k h a b refl) q, tt)

    empty_idle : (k : ℕ) → awaits k Empty ≡ false
    empty_idle zero = refl
    empty_idle (suc k) = refl

    goes : (p : Point) (s : Local) → There p s → Keeps Both Follows There p (turn_at g t p s)
    goes p s h = go p.tree p.place p.number p.bound h
      where
        go : (b : Tree) (q k : ℕ) (vs : List ℕ) → IsFollowed b × Ahead k b s → Keeps Both Follows There (record { tree = b; place = q; number = k; bound = vs }) (turn_at g t (record { tree = b; place = q; number = k; bound = vs }) s)
        go Empty q k vs z = (both k Empty s (empty_idle k) z.1, tt)
        go (Node i a b) q k vs z = goes_on i a b q k vs s z.0 z.1

    kept : IsFollowed game → IsKept Both Follows There g t game
    kept f = record {
      memory = λ w e. absurd (both_ways false refl e);
      inputs = inputs_follow g game 0 [] f;
      begun = λ i m vs e b n. (e, λ w o. inl (b w o));
      goes = goes;
    }

    at_finds : (v : Visit) → HasIt There v → AssignsAfter x y v
    at_finds v h = go v.tree h.2.1
      where
        go : (b : Tree) → Ahead h.0 b v.before → AssignsAfterAt x y b v.before
        go (Node (Find l) a b) q = both h.0 (Node (Find l) a b) v.before (idle h.0 (Find l) a b refl) q
        go b q = tt

    pub followed_at_finds : (m : Mode) (adversary : Adversary) → IsFollowed game → AllByRecursion (AssignsAfter x y) (visits_of_run g m adversary game t)
    followed_at_finds m adversary f = AllByRecursion_weaker (HasIt There) (AssignsAfter x y) at_finds _ (game_keeps g t game Both Follows There (kept f) m adversary).0
