-- A call of a context's, and what stands for it in the next game.
use Rattle.std.proofs.Common.{◌≡◌, ℕ, Bool, true, false, cond, ◌&&◌, ◌==◌, List, [], ◌∷◌, length, is_some, Some, refl, sym, ap, ◌∙◌, eqb-true}
use Rattle.std.proofs.lemmas.Bool.{both_ways}
use Rattle.std.specs.List.{AllByRecursion}
use Rattle.cv_syntax_trees.specs.Tree.{Tree}
use Rattle.cv_meaning.specs.Tapes.{same_tuple}
use Rattle.cv_meaning.specs.Side.{Arrays, OracleAnswer}
use Rattle.cv_meaning.specs.Memory.{Store, Happened, Indices, tuple, put}
use Rattle.cv_meaning.specs.Terms.{values}
use Rattle.cv_meaning.specs.Serving.{Served, serve}
use Rattle.cv_meaning_laws.specs.Agreement.{AgreeOn}
use Rattle.cv_meaning_laws.proofs.Agreeing.{values_agree}
use Rattle.cv_meaning.specs.contexts.Groups.{Function}
use Rattle.cv_meaning.specs.contexts.Bodies.{reply}
use Rattle.cv_meaning.specs.contexts.Inlined.{Caller, TheKey, is_index_of, inlined_call}
use Rattle.cv_meaning.specs.contexts.Roles.{Role, Plain, Replication, Gone, TheKeyName, Variable, Index, is_plain, is_elsewhere}
use Rattle.cv_inline.specs.bodies.Inlining.{Inlining, Naming}
use Rattle.cv_inline.specs.bodies.Related.{MadeUnder, with_made, KeyStays, KeepsMemories}
use Rattle.cv_inline.proofs.bodies.Stages.{keys_agree}
use Rattle.cv_inline.proofs.bodies.Served.{call_keeps}
use Rattle.cv_inline.specs.NextGame.{callers_of}
use Rattle.cv_inline_laws.specs.runs.Texts.{is_ordinary, Text, plain_in, oracles_in, IsHere, inlining_at, naming_at, run_pair_in, KeyKeeps, AreRelatedIn, IsExpectedCall, IsFineCalling, IsServedAs}

plain_ordinary : (r : Role) → is_plain r ≡ true → is_ordinary r ≡ true
plain_ordinary Plain e = refl
plain_ordinary Replication e = refl
plain_ordinary Gone e = absurd (both_ways _ refl e)
plain_ordinary TheKeyName e = absurd (both_ways _ refl e)
plain_ordinary (Variable s v) e = absurd (both_ways _ refl e)
plain_ordinary (Index s q o b k) e = absurd (both_ways _ refl e)

ordinary_elsewhere : (c : ℕ) (r : Role) → is_ordinary r ≡ true → is_elsewhere c r ≡ true
ordinary_elsewhere c Plain e = refl
ordinary_elsewhere c Replication e = refl
ordinary_elsewhere c Gone e = refl
ordinary_elsewhere c TheKeyName e = refl
ordinary_elsewhere c (Variable s v) e = absurd (both_ways _ refl e)
ordinary_elsewhere c (Index s q o b k) e = absurd (both_ways _ refl e)

module _ (T : Text) (c : Caller) (at : Indices) (made : MadeUnder) (key : List ℕ) (es : List Happened) (br : Arrays) (m : Store) (ar : Arrays) (n : Store) (follows : Tree → Tree)
    (related : AreRelatedIn T made m ar n) (expected : IsExpectedCall T c m at key) where
  abbrev h : IsHere T c at
  h = expected.here

  abbrev p : Inlining
  p = inlining_at T c at h

  abbrev nm : Naming p
  nm = naming_at T c at h

  abbrev callers : List Caller
  callers = callers_of T.calls.callings

  plain_same : AgreeOn (plain_in T) m n
  plain_same y w e = related.ordinary y w (plain_ordinary (T.role y) e)

  kept_key : (m : Store) (s : Caller) (w k : List ℕ) → KeyKeeps T m s w k → KeyStays p nm m s w k
  kept_key m s w k h = record { found = h.found; value = h.value; assigned = h.assigned }

  key_kept : (m : Store) (s : Caller) (w k : List ℕ) → KeyStays p nm m s w k → KeyKeeps T m s w k
  key_kept m s w k h = record { found = h.found; value = h.value; assigned = h.assigned }

  all_kept : (ss : List Caller) → AllByRecursion (λ s. (w k : List ℕ) → made (record { tuple = w; site = s.number }) ≡ Some k → KeyKeeps T m s w k × (length k ≡ T.key_length)) ss
      → AllByRecursion (λ s. (w k : List ℕ) → made (record { tuple = w; site = s.number }) ≡ Some k → KeyStays p nm m s w k × (length k ≡ length (values T.g at m c.key))) ss
  all_kept [] a = tt
  all_kept (s ∷ ss) a = (λ w k e. let z = a.0 w k e in (kept_key m s w k z.0, z.1 ∙ sym expected.key_length ∙ ap length (sym expected.key_value)), all_kept ss a.1)

  here_kept : (ss : List Caller) → AllByRecursion (λ s. s.number ≡ c.number → KeyKeeps T m s (tuple at) key) ss → AllByRecursion (λ s. s.number ≡ c.number → KeyStays p nm m s (tuple at) key) ss
  here_kept [] a = tt
  here_kept (s ∷ ss) a = (λ e. kept_key m s (tuple at) key (a.0 e), here_kept ss a.1)

  -- behind the call
  module _ (r : OracleAnswer) where
    abbrev m' : Store
    m' = put m (T.answer c.number) (tuple at) r.value

    put_other : (y : ℕ) (w : List ℕ) → (y == T.answer c.number) ≡ false → m' y w ≡ m y w
    unfolding put
    put_other y w e = ap (λ b. cond (b && same_tuple w (tuple at)) (Some r.value) (m y w)) e

    no_answer : (on : Role → Bool) → on Gone ≡ false → (y : ℕ) → on (T.role y) ≡ true → (y == T.answer c.number) ≡ false
    no_answer on g y e = go (y == T.answer c.number) refl
      where
        go : (b : Bool) → (y == T.answer c.number) ≡ b → b ≡ false
        go true i = absurd (both_ways _ g (sym (ap (λ x. on (T.role x)) (eqb-true y (T.answer c.number) i) ∙ ap on (T.answers c.number)) ∙ e))
        go false i = refl

    key_after : values T.g at m' c.key ≡ key
    key_after = sym (keys_agree p (plain_in T) m m' (λ y w e. sym (put_other y w (no_answer is_plain refl y e))) at (is_index_of c.replications) h.found c.key h.key_terms) ∙ expected.key_value

    all_back : (made' : MadeUnder) (ss : List Caller) → AllByRecursion (λ s. (w k : List ℕ) → made' (record { tuple = w; site = s.number }) ≡ Some k → KeyStays p nm m' s w k × (length k ≡ length (values T.g at m' c.key))) ss
        → AllByRecursion (λ s. (w k : List ℕ) → made' (record { tuple = w; site = s.number }) ≡ Some k → KeyKeeps T m' s w k × (length k ≡ T.key_length)) ss
    all_back made' [] a = tt
    all_back made' (s ∷ ss) a = (λ w k e. let z = a.0 w k e in (key_kept m' s w k z.0, z.1 ∙ ap length key_after ∙ expected.key_length), all_back made' ss a.1)

    pub served_again : (served : Served) → KeepsMemories p nm T.answer (run_pair_in T) (with_made made (record { tuple = tuple at; site = c.number }) key) es br m n follows r served → IsServedAs T c at made key es br m n follows r served
    served_again served k = record {
      result = k.comes.result;
      store = k.comes.store;
      place = k.comes.place;
      branch = k.comes.branch;
      chosen = k.comes.chosen;
      elsewhere = k.comes.as_before.elsewhere;
      related = record {
        ordinary = λ y w e. put_other y w (no_answer is_ordinary refl y e) ∙ related.ordinary y w e ∙ k.comes.as_before.elsewhere y w (ordinary_elsewhere c.number (T.role y) e);
        arrays = k.related.arrays;
        unmade = k.related.unmade;
        answered = k.related.answered;
        stays = all_back (with_made made (record { tuple = tuple at; site = c.number }) key) callers k.related.stays;
        key_cells = λ w. ap is_some (put_other T.calls.key w (T.key_apart c.number)) ∙ related.key_cells w ∙ ap is_some (key_stays w);
        key_values = λ w e. sym (key_stays w) ∙ related.key_values w (ap is_some (sym (put_other T.calls.key w (T.key_apart c.number))) ∙ e);
      };
      other_tuples = k.comes.as_before.other_tuples;
      value = λ later l. k.comes.value later (record { names = l.names; calls = l.calls });
      service = k.comes.service;
    }
      where
        key_stays : (w : List ℕ) → n T.calls.drawn.key w ≡ k.comes.store T.calls.drawn.key w
        key_stays w = k.comes.as_before.elsewhere T.calls.drawn.key w (ap (is_elsewhere c.number) T.key_role)

  pub call_in_place : (f : Function) (arguments : Tree) → IsFineCalling T c f at h arguments → (pl j : ℕ) (ws : List ℕ)
      → IsServedAs T c at made key es br m n follows (reply (oracles_in T) T.side_tape ar (record { key = key; number = record { tuple = tuple at; site = c.number }; arguments = values T.g at m arguments }))
      (serve T.g T.game_tape (inlined_call T.calls.drawn callers c ((T.calls.group.key.0, TheKey) ∷ []) f.arguments arguments f.body follows) pl j ws (record { indices = at; memory = record { store = n; events = es; arrays = br } }))
  call_in_place f arguments fine pl j ws =
      served_again (reply (oracles_in T) T.side_tape ar (record { key = key; number = record { tuple = tuple at; site = c.number }; arguments = values T.g at m arguments }))
      _
      (call_keeps p nm T.answer (run_pair_in T) made key es br m ar n follows (record {
        call = record { key_terms = h.key_terms; found = h.found; arity = h.arity; apart = h.apart; chosen = h.chosen; picked = h.picked };
        sites = fine.sites;
        related = record { ordinary = plain_same; arrays = related.arrays; unmade = related.unmade; answered = related.answered; stays = all_kept callers related.stays };
        here = record { fresh = expected.fresh; key_value = expected.key_value; key_chosen = related.key_values key expected.key_chosen; stays = here_kept callers expected.stays; answer_apart = ap is_plain (T.answers c.number) };
      }) f arguments (values T.g at m arguments) fine.function fine.no_coins fine.body
      (λ n' off. sym (values_agree T.g at (λ y. is_ordinary (T.role y)) m n' (λ y w e. related.ordinary y w e ∙ off y w (ordinary_elsewhere c.number (T.role y) e)) arguments fine.plain_arguments)) pl j ws)
