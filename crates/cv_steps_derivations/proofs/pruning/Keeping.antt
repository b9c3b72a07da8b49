-- An accepted step that takes a body away keeps chances.
use Rattle.std.proofs.Common.{◌≡◌, ℕ, true, List, Option, Some, None, refl, ap, subst, ◌∙◌}
use Rattle.std.specs.Prelude.{option_map}
use Rattle.std.proofs.lemmas.List.Elements.{All-weaker}
use Rattle.std.specs.List.{All, AllByRecursion}
use Rattle.cv_syntax_trees.specs.declared.head.Head.{Head}
use Rattle.cv_syntax_trees.specs.declared.head.Head.TheVariants.{Cons, Find, If}
use Rattle.cv_syntax_trees.specs.Tree.{Tree, Node, first_place, second_place}
use Rattle.cv_meaning.specs.Tapes.{Tape, blank}
use Rattle.cv_meaning.specs.Interpretation.{Interpretation, setting_of}
use Rattle.cv_meaning.specs.Satisfies.{Satisfies}
use Rattle.cv_meaning.specs.Serving.{Visit}
use Rattle.cv_meaning.specs.Runs.{Adversary, Mode}
use Rattle.cv_meaning.specs.Cells.{cells}
use Rattle.cv_meaning.specs.Experiments.{holds_on, mode_of, visits_of_run}
use Rattle.cv_meaning_laws.specs.adequacy.Counted.{tapes_of}
use Rattle.cv_meaning_runs.specs.Replacement.{IsReplaced, Process, ServeAlike}
use Rattle.cv_meaning.specs.Replaced.{is_output}
use Rattle.cv_meaning_runs.proofs.Replacement.{replaced_holds}
use Rattle.cv_scope_rules.specs.Phrases.{Phrase, Inputs, is_phrase}
use Rattle.cv_typing_runs.specs.Games.{context_of}
use Rattle.cv_typing_runs.proofs.Games.{typed}
use Rattle.cv_scene.specs.Scenes.{Scene, part_at}
use Rattle.cv_scene.specs.Pruning.{Branch, Else, Part, Pruned, Then, branch_body, find_of, pruned, without_branch}
use Rattle.cv_derive_laws.specs.stores.Holding.{IsReady}
use Rattle.cv_derive_laws.specs.stores.Unreached.{DerivesFalse, HasNoneAt, IsElsewhere}
use Rattle.cv_derive_laws.specs.stores.Soundness.{DerivedBodiesAreUnreached}
use Rattle.cv_steps.specs.Steps.{Cost, Leads}
use Rattle.cv_steps.specs.Changes.{change_at}
use Rattle.cv_steps.specs.Rows.{prune_row}
use Rattle.cv_steps.specs.Chances.{KeepsChances}
use Rattle.cv_steps.proofs.Comes.{placed}
use Rattle.cv_steps.proofs.Pruned.{prune_leads}
use Rattle.cv_steps_laws.proofs.chances.Chances.{chance_inside}
use Rattle.cv_steps_laws.proofs.chances.Inclusion.{Includes, replaced_included}
use Rattle.cv_steps_laws.proofs.chances.Phrases.{Keeps, body_output, find_parts, if_bodies, phrase_replaced, phrase_there}
use Rattle.cv_steps_derivations.proofs.pruning.Inclusion.{else_included, find_included, then_included}
use Rattle.cv_steps_derivations.proofs.pruning.Phrases.{else_left, find_left, then_left}
use Rattle.cv_steps_derivations.proofs.pruning.Serving.{branch_goes, else_goes, then_goes}
use Rattle.cv_steps.proofs.Sizes.{NamesSorts, typed_names}

module _ (s : Scene) (ready : IsReady s.declarations s.game) (place : ℕ) where
  abbrev with_left : Tree → Tree
  with_left new = change_at s.game place (λ old. new)

  abbrev Standing : Tree → Type 0
  Standing old = part_at s.game place ≡ old

  there : (old new : Tree) → Standing old → is_output old ≡ true → IsReplaced old new place Process 0 s.game (with_left new)
  there old new f o = subst (λ t. IsReplaced t new place Process 0 s.game (with_left new)) f (placed s.game place (λ t. new) ready.formed.phrase (ap is_output f ∙ o))

  some_phrase : (old : Tree) → Standing old → is_output old ≡ true → (σ : Phrase) × (is_phrase σ old ≡ true)
  some_phrase old f o = phrase_there old old place Process 0 s.game (with_left old) (there old old f o) Inputs ready.formed.phrase

  -- on each tape that is counted, each visit is as expected
  abbrev IsExpected : (Interpretation → Visit → Type 0) → Type 0
  IsExpected V =
      (i : Interpretation) → Satisfies s.declarations i → (m : Mode) (a : Adversary) →
      All (λ t. AllByRecursion (V i) (visits_of_run (setting_of s.declarations i) m a s.game t)) (tapes_of (cells (setting_of s.declarations i) m a s.game) blank)

  goes : (V : Interpretation → Visit → Type 0) (old new : Tree) → Standing old → is_output old ≡ true → ((i : Interpretation) (t : Tape) → ServeAlike (V i) (setting_of s.declarations i) t old new place) → IsExpected V
      → Keeps old new → ((i : Interpretation) (give : Head → List ℕ → _) → Includes (setting_of s.declarations i) give old new) → KeepsChances s.declarations s.game (with_left new)
  goes V old new f o alike expected keeps includes i sat x asked a =
      let g = setting_of s.declarations i in
      let next : Tree = with_left new in
      let z : IsReplaced old new place Process 0 s.game next = there old new f o in
      let names : NamesSorts (context_of s.declarations s.game) s.game = typed_names (context_of s.declarations s.game) s.game ready.formed.phrase (typed s.declarations s.game ready.arguments ready.formed ready.typed ready.names) in
      chance_inside (context_of s.declarations s.game) s.declarations i x a s.game next names (λ give. replaced_included g give old new place (includes i give) Process 0 s.game next z)
      (phrase_replaced old new place keeps Process 0 s.game next z Inputs ready.formed.phrase)
      (All-weaker (λ t. AllByRecursion (V i) (visits_of_run g (mode_of x) a s.game t)) (λ t. holds_on g x a s.game t ≡ holds_on g x a next t) (λ t v. replaced_holds (V i) x a g old new place s.game next t (record { replaced = z; alike = alike i t; visited = v })) _ (expected i sat (mode_of x) a))

  module _ (by : Tree) (unreached : DerivedBodiesAreUnreached s.declarations) where
    elsewhere : (q : ℕ) → DerivesFalse s q by → IsExpected (λ i. IsElsewhere q)
    elsewhere q d = unreached.visits s refl q by d ready

    none : (q : ℕ) → DerivesFalse s q by → IsExpected (λ i. HasNoneAt s i q)
    none q d = unreached.candidates s refl q by d ready

    -- without the part that stands in the construct
    abbrev Goes : Pruned → Type 0
    Goes b = DerivesFalse s b.body by → KeepsChances s.declarations s.game (with_left b.left)

    by_part : (t : Tree) → Standing t → (part : Part) (b : Pruned) → pruned place t part ≡ Some b → Goes b
    by_part (Node If c (Node Cons x (Node Cons y n))) f Then b e =
        let k = some_phrase (Node If c (Node Cons x (Node Cons y n))) f refl in
        let p = if_bodies k.0 c x y n k.1 in
        let same : (let r : Pruned = record { body = first_place (second_place place If c) Cons; left = y } in r) ≡ b = cc in
        subst Goes same
        (λ d. goes (λ i. IsElsewhere (first_place (second_place place If c) Cons)) (Node If c (Node Cons x (Node Cons y n))) y f refl (λ i t. then_goes (setting_of s.declarations i) t place c x y n (body_output x p.then) (body_output y p.else)) (elsewhere (first_place (second_place place If c) Cons) d) (else_left c x y n) (λ i give. else_included (setting_of s.declarations i) give c x y n))
    by_part (Node If c (Node Cons x (Node Cons y n))) f Else b e =
        let k = some_phrase (Node If c (Node Cons x (Node Cons y n))) f refl in
        let p = if_bodies k.0 c x y n k.1 in
        let same : (let r : Pruned = record { body = first_place (second_place (second_place place If c) Cons x) Cons; left = x } in r) ≡ b = cc in
        subst Goes same
        (λ d. goes (λ i. IsElsewhere (first_place (second_place (second_place place If c) Cons x) Cons)) (Node If c (Node Cons x (Node Cons y n))) x f refl (λ i t. else_goes (setting_of s.declarations i) t place c x y n (body_output x p.then) (body_output y p.else)) (elsewhere (first_place (second_place (second_place place If c) Cons x) Cons) d) (then_left c x y n) (λ i give. then_included (setting_of s.declarations i) give c x y n))
    by_part (Node (Find l) bs y) f (Branch k) b e = go (branch_body (first_place place (Find l)) bs k) refl e
      where
        go : (o : Option ℕ) → branch_body (first_place place (Find l)) bs k ≡ o → option_map (λ q. record { body = q; left = find_of l (without_branch bs k) y }) o ≡ Some b → Goes b
        go None j e = absurd (cc)
        go (Some q) j e =
            let w = some_phrase (Node (Find l) bs y) f refl in
            let p = find_parts w.0 l bs y w.1 in
            let same : (let r : Pruned = record { body = q; left = find_of l (without_branch bs k) y } in r) ≡ b = cc in
            subst Goes same
            (λ d. goes (λ i. HasNoneAt s i q) (Node (Find l) bs y) (find_of l (without_branch bs k) y) f refl (λ i t. branch_goes s i t place q l bs y k p.branches (body_output y p.else) j) (none q d) (find_left l bs y k) (λ i give. find_included (setting_of s.declarations i) give l bs y k p.branches))
    by_part t f part b e = absurd (cc)

pub prunes : (s : Scene) (place : ℕ) (part : Part) (by next : Tree) (cost : Cost) → IsReady s.declarations s.game → DerivedBodiesAreUnreached s.declarations → prune_row s place part by ≡ Leads next cost → KeepsChances s.declarations s.game next
prunes s place part by next cost ready unreached e =
    let r = prune_leads s place part by next cost e in
    subst (KeepsChances s.declarations s.game) r.leads (by_part s ready place by unreached (part_at s.game place) refl part r.gone r.stands r.derives)
