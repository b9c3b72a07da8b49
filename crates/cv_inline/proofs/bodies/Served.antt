-- A body, and a call, that is served comes to what follows it.
use Rattle.std.proofs.Common.{◌≡◌, ℕ, List, [], ◌∷◌, Some, refl, sym, ap, subst, ◌∙◌}
use Rattle.cv_syntax_trees.specs.Tree.{Tree}
use Rattle.cv_meaning.specs.Side.{Arrays, OracleCall, OracleAnswer}
use Rattle.cv_meaning.specs.Memory.{Store, Happened}
use Rattle.cv_meaning.specs.Serving.{Served, serve}
use Rattle.cv_meaning.specs.contexts.Groups.{Function}
use Rattle.cv_meaning.specs.contexts.Frames.{Frame}
use Rattle.cv_meaning.specs.contexts.Bodies.{begun, with_arguments, with_coins, body_answer, function_called, function_answer, reply}
use Rattle.cv_meaning.specs.contexts.Inlined.{TheKey, Scope, inlined_body, inlined_call}
use Rattle.cv_inline.specs.bodies.Inlining.{Inlining, Naming}
use Rattle.cv_inline.specs.bodies.Accepted.{IsFineBody, IsFineCall}
use Rattle.cv_inline.specs.bodies.Related.{MadeUnder, RunPair, with_made, this_call, oracles, at_store, IsAsBefore, IsUnderWay, IsServing, ArgumentsStay, IsCallToBeMade, ComesTo, KeepsMemories}
use Rattle.cv_inline.proofs.bodies.Stages.{Scene}
use Rattle.cv_inline.proofs.bodies.Bodies as bodies
use Rattle.cv_inline.proofs.bodies.Calls as calls

module _ (p : Inlining) (nm : Naming p) (i : RunPair) (made : MadeUnder) (key : List ℕ) (es : List Happened) (br : Arrays) (before : Store) (follows : Tree → Tree) (way : IsUnderWay p nm i made key before) where
  scene : Scene p nm made key
  scene = record { mine = way.mine; key_terms = way.call.key_terms; found = way.call.found; at_arity = way.call.arity }

  Comes : OracleAnswer → Served → Type 0
  Comes r served = ComesTo p nm i made es br before follows r served

  comes : (r : OracleAnswer) → bodies.Goes p nm i.callers i.group i.sites made key scene way.call.apart i.side_tape i.game_tape way.call.chosen way.call.picked es br before follows (Comes r) way.sites way.keys r
  unfolding Comes
  comes r m pl j vs n off arr un val =
      record { result = m; store = n; place = pl; branch = j; chosen = vs; as_before = off; arrays = arr; unmade = un; value = val; service = refl }

  pub body_comes : (Σ : Scope) (e : Frame) (q : ℕ) (body : Tree) (n : Store) → IsFineBody p i.callers Σ q body → IsServing p nm made key Σ e n q → IsAsBefore p nm before n → (pl j : ℕ) (vs : List ℕ)
      → ComesTo p nm i made es br before follows (body_answer (oracles p i) i.side_tape e q body) (serve p.g i.game_tape (inlined_body p.d i.callers p.c Σ q body follows) pl j vs (at_store p es br n))
  unfolding Comes
  body_comes Σ e q body n f st off pl j vs =
      bodies.body_served p nm i.callers i.group i.sites made key scene way.call.apart i.side_tape i.game_tape way.call.chosen way.call.picked es br before follows (Comes (body_answer (oracles p i) i.side_tape e q body)) way.sites way.keys
      body Σ e q f n st off (comes (body_answer (oracles p i) i.side_tape e q body)) pl j vs

  pub call_comes : (Σ : Scope) (e : Frame) (xs : List (ℕ × ℕ)) (ms body : Tree) (vs : List ℕ) (n : Store) → IsFineCall p i.callers Σ xs ms body → IsServing p nm made key Σ e n 0 → IsAsBefore p nm before n → ArgumentsStay p nm before ms vs → (pl j : ℕ) (ws : List ℕ)
      → ComesTo p nm i made es br before follows (body_answer (oracles p i) i.side_tape (with_arguments e xs vs) 0 body) (serve p.g i.game_tape (inlined_call p.d i.callers p.c Σ xs ms body follows) pl j ws (at_store p es br n))
  unfolding Comes
  call_comes Σ e xs ms body vs n f st off va pl j ws =
      bodies.call_served p nm i.callers i.group i.sites made key scene way.call.apart i.side_tape i.game_tape way.call.chosen way.call.picked es br before follows (Comes (body_answer (oracles p i) i.side_tape (with_arguments e xs vs) 0 body)) way.sites way.keys
      body xs ms vs Σ e f n st off (λ n o. va n o.elsewhere) (comes (body_answer (oracles p i) i.side_tape (with_arguments e xs vs) 0 body)) pl j ws

module _ (p : Inlining) (nm : Naming p) (answer : ℕ → ℕ) (i : RunPair) (made : MadeUnder) (key : List ℕ) (es : List Happened) (br : Arrays) (m : Store) (ar : Arrays) (n : Store) (follows : Tree → Tree) (way : IsCallToBeMade p nm answer i made key m ar n) where
  -- the answer of the function's body
  by_body : Function → List ℕ → OracleAnswer
  by_body f vs = body_answer (oracles p i) i.side_tape (with_arguments (begun i.side_tape i.group.key ar (record { key = key; number = this_call p; arguments = vs })) f.arguments vs) 0 f.body

  replied : (f : Function) (vs : List ℕ) → function_called (oracles p i) (this_call p) ≡ Some f → f.coins ≡ [] → reply (oracles p i) i.side_tape ar (record { key = key; number = this_call p; arguments = vs }) ≡ by_body f vs
  unfolding reply by_body
  replied f vs c k =
      let call : OracleCall = record { key = key; number = this_call p; arguments = vs } in
      ap (function_answer (oracles p i) i.side_tape ar call) c
      ∙ ap (λ cs. body_answer (oracles p i) i.side_tape (with_arguments (with_coins i.side_tape (begun i.side_tape i.group.key ar call) cs) f.arguments vs) 0 f.body) k

  abbrev Keeps : OracleAnswer → Served → Type 0
  Keeps r served = KeepsMemories p nm answer i (with_made made (this_call p) key) es br m n follows r served

  pub call_keeps : (f : Function) (ms : Tree) (vs : List ℕ) → function_called (oracles p i) (this_call p) ≡ Some f → f.coins ≡ [] → IsFineCall p i.callers ((i.group.key.0, TheKey) ∷ []) f.arguments ms f.body → ArgumentsStay p nm n ms vs → (pl j : ℕ) (ws : List ℕ)
      → KeepsMemories p nm answer i (with_made made (this_call p) key) es br m n follows (reply (oracles p i) i.side_tape ar (record { key = key; number = this_call p; arguments = vs }))
      (serve p.g i.game_tape (inlined_call p.d i.callers p.c ((i.group.key.0, TheKey) ∷ []) f.arguments ms f.body follows) pl j ws (at_store p es br n))
  unfolding by_body
  call_keeps f ms vs c k fine va pl j ws = subst (λ r. Keeps r (serve p.g i.game_tape (inlined_call p.d i.callers p.c ((i.group.key.0, TheKey) ∷ []) f.arguments ms f.body follows) pl j ws (at_store p es br n))) (sym (replied f vs c k))
      (calls.call_kept p nm answer i.group i.sites i.callers made m ar n way.related i.side_tape i.game_tape key way.call.found way.call.arity way.call.key_terms way.call.apart way.call.chosen way.call.picked way.here.fresh way.here.key_value way.here.key_chosen way.here.stays
      i.group.key.0 f.body f.arguments ms vs fine way.sites follows (Keeps (by_body f vs)) es br (λ n o. va n o.elsewhere) way.here.answer_apart
      (λ result n' pl j ws related off val. record {
        comes = record { result = result; store = n'; place = pl; branch = j; chosen = ws; as_before = off; arrays = related.arrays; unmade = related.unmade; value = val; service = refl };
        related = related;
      }) pl j ws)
