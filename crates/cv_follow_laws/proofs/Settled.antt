-- Two runs on the same source that are settled go equally far, and end alike: of a step by which one of them ends nothing else is said in
-- the game where it stands.
use Rattle.std.proofs.Common.{◌≡◌, ℕ, suc, ◌+◌, ◌<◌, inl, inr, false, List, [], ◌∷◌, ◌++◌, length, map, take, Option, Some, None, refl, ap, ap₂, sym, ◌∙◌, subst, arith}
use Rattle.std.proofs.lemmas.Bool.{cases_order}
use Rattle.std.proofs.lemmas.List.{append_assoc, append_cancel_left, length-append, length-map, map-append, take_at}
use Rattle.cv_library.specs.Givens.{Given}
use Rattle.cv_pool.specs.names.Texts.{NoRepeat}
use Rattle.cv_syntax.specs.declared.work.File.{File}
use Rattle.cv_syntax_trees.specs.Tree.{Tree}
use Rattle.cv_meaning.specs.Queries.{queries_in}
use Rattle.cv_scene.specs.Scenes.{Scene}
use Rattle.cv_script.specs.Views.{items_of_step}
use Rattle.cv_steps.specs.Sequences.{scene}
use Rattle.cv_accept.specs.Accepted.{Content}
use Rattle.cv_pool.specs.KindTree.{KindTree}
use Rattle.cv_kernel.specs.Drawings.{DrawsAlong, told}
use Rattle.cv_kernel.specs.Proofs.{IsProof, Transition, closed_by, nodes_along}
use Rattle.cv_kernel.specs.Sayings.{Accepted, IsSaid, Refused, Saying, TooDeep, TooLarge}
use Rattle.cv_kernel.proofs.Drawn.{last_told, told_last}
use Rattle.cv_report.specs.declared.report.Cause.TheVariants.{StepRefused}
use Rattle.cv_report.specs.declared.report.Report.{Report}
use Rattle.cv_report.specs.declared.report.Status.{Status}
use Rattle.cv_report.specs.declared.report.Status.TheVariants as status
use Rattle.cv_report.specs.declared.report.Which.TheVariants.{Depth, Nodes}
use Rattle.cv_report.specs.Text.{end_text}
use Rattle.cv_follow.specs.Scripts.{EndsScript, Stops, is_without_block, no_room, refused, too_deep, too_large, too_many}
use Rattle.cv_kernel.specs.Followed.{known_to}
use Rattle.cv_follow.specs.Courses.{Course, names_behind}
use Rattle.cv_follow.specs.Fillings.{has_word}
use Rattle.cv_follow_laws.specs.Reports.{AreFound, AreFront, FollowsScript, IsPlain, IsReportOf, IsSettled, Proceeds, block_of, file_in, query_in, text_of}
use Rattle.cv_follow_laws.proofs.Fronts.{proof_at}
use Rattle.cv_follow_laws.proofs.Outcomes.{IsFixedSaying, one_saying}
use Rattle.cv_follow_laws.proofs.Scripted.{front_is, same_is}
use Rattle.cv_follow_laws.proofs.Alike.{IsIts, apart, drawn_along, its, one_script, proceeds}
use Rattle.cv_follow_laws.proofs.Printed.{body_is}

-- a settled run whose script stops before its end stops at a step of which one thing is said

abbrev stopped_by : (count : ℕ) → Saying → Status
stopped_by count (Refused condition place) = status.Open (StepRefused (count + 1) condition place)
stopped_by count (TooLarge nodes) = status.Limit (Nodes nodes)
stopped_by count (TooDeep depth) = status.Limit (Depth depth)
stopped_by count (Accepted next cost) = status.Proved

record IsStopped (s : Scene) (ks : List ℕ) (count : ℕ) (step : Tree) (end : Status) : Type 0 where
  pub saying : Saying
  pub fixed : IsFixedSaying saying
  pub said : IsSaid s ks (suc count) step saying
  pub ended : end ≡ stopped_by count saying

stopped : (taken count : ℕ) (s : Scene) (ks : List ℕ) (step : Tree) (end : Status) → Stops taken count s ks step end → IsSettled end → IsStopped s ks count step end
stopped taken count s ks step end (too_many l) h = absurd h
stopped taken count s ks step end (refused c p l w) h = record { saying = Refused c p; fixed = h; said = w; ended = refl }
stopped taken count s ks step end (too_large m l w) h = record { saying = TooLarge m; fixed = tt; said = w; ended = refl }
stopped taken count s ks step end (too_deep d l w) h = record { saying = TooDeep d; fixed = tt; said = w; ended = refl }
stopped taken count s ks step end (no_room need l w) h = absurd h

-- so both end alike there
stops_alike : (s : Scene) (ks : List ℕ) (count : ℕ) (step : Tree) (end other : Status) → IsStopped s ks count step end → IsStopped s ks count step other → end ≡ other
stops_alike s ks count step end other a b =
    let one : b.saying ≡ a.saying = one_saying s ks (suc count) step a.saying b.saying (items_of_step step) a.fixed a.said b.said in
    a.ended ∙ (ap (stopped_by count) (sym one) ∙ sym b.ended)

ends_alike : (taken room count : ℕ) (s : Scene) (ks : List ℕ) (queries left : List Tree) (end other : Status) → EndsScript taken count s ks queries left end → EndsScript room count s ks queries left other → IsSettled end → IsSettled other → end ≡ other
ends_alike taken room count s ks queries [] end other w v h k = w ∙ sym v
ends_alike taken room count s ks queries (step ∷ left) end other w v h k = stops_alike s ks count step end other (stopped taken count s ks step end w h) (stopped room count s ks step other v k)

module _ (c : Content) (unlike : NoRepeat c.names) where
  abbrev Leads : List Transition → Tree → Type 0
  Leads ts last = IsProof c.declarations (known_to c.own) c.game ts last

  abbrev Drawn : List Transition → List (List ℕ) → Type 0
  Drawn ts after = DrawsAlong (is_without_block c.script) c.declarations (known_to c.own) c.own c.game (map told ts) c.names after

  abbrev here : Tree → Scene
  here game = scene c.declarations (known_to c.own) game

  abbrev steps : List Transition → List Tree
  steps ts = map (λ (t : Transition). t.step) ts

  one_end : (ts us : List Transition) (g h : Tree) → Leads ts g → Leads us h → ts ≡ us → g ≡ h
  one_end ts us g h p q e = sym (told_last c.declarations (known_to c.own) c.game ts g p) ∙ (ap (λ xs. last_told c.game (map told xs)) e ∙ told_last c.declarations (known_to c.own) c.game us h q)

  -- no run goes further than a settled one
  no_further : (taken : ℕ) (ts us : List Transition) (g h : Tree) (after other : List (List ℕ)) (queries left rest : List Tree) (end : Status) → Leads ts g → Leads us h → Drawn ts after → Drawn us other → steps ts ++ left ≡ steps us ++ rest
      → EndsScript taken (length ts) (here g) (closed_by ts) queries left end → IsSettled end → length ts < length us → ⊥
  no_further taken ts us g h after other queries [] rest end p q k l e w s more =
      let a : length (steps ts ++ []) ≡ length ts + 0 = length-append (steps ts) [] ∙ ap (λ n. n + 0) (length-map ts (λ (t : Transition). t.step)) in
      let b : length (steps us ++ rest) ≡ length us + length rest = length-append (steps us) rest ∙ ap (λ n. n + length rest) (length-map us (λ (t : Transition). t.step)) in
      let same : length (steps ts ++ []) ≡ length (steps us ++ rest) = ap length e in
      omega arith
  no_further taken ts us g h after other queries (step ∷ left) rest end p q k l e w s more =
      let a = proof_at c.declarations (known_to c.own) c.game us h (length ts) q more in
      let front : ts ≡ a.front = front_is c unlike ts us g h after other (step ∷ left) rest p q k l e (omega arith) ∙ (ap (take (length ts)) a.split ∙ take_at a.front (a.one ∷ a.more) (length ts) a.count) in
      let parts : steps us ++ rest ≡ steps ts ++ (a.one.step ∷ (steps a.more ++ rest)) =
      ap (λ xs. steps xs ++ rest) a.split
      ∙ (ap (λ xs. xs ++ rest) (map-append (λ (t : Transition). t.step) a.front (a.one ∷ a.more))
      ∙ (append_assoc (steps a.front) (steps (a.one ∷ a.more)) rest ∙ ap (λ xs. steps xs ++ (a.one.step ∷ (steps a.more ++ rest))) (sym front))) in
      let tails : step ∷ left ≡ a.one.step ∷ (steps a.more ++ rest) = append_cancel_left (steps ts) (step ∷ left) (a.one.step ∷ (steps a.more ++ rest)) (e ∙ parts) in
      let same : a.one.step ≡ step = cc in
      let game : a.game ≡ g = one_end a.front ts a.game g a.before p (sym front) in
      let one : IsSaid (here a.game) (closed_by a.front) (suc (length a.front)) step (Accepted a.one.next a.one.cost) = subst (λ x. IsSaid (here a.game) (closed_by a.front) (suc (length a.front)) x (Accepted a.one.next a.one.cost)) same a.here.accepted in
      let two : IsSaid (here g) (closed_by a.front) (suc (length a.front)) step (Accepted a.one.next a.one.cost) = subst (λ x. IsSaid (here x) (closed_by a.front) (suc (length a.front)) step (Accepted a.one.next a.one.cost)) game one in
      let three : IsSaid (here g) (closed_by ts) (suc (length ts)) step (Accepted a.one.next a.one.cost) = subst (λ xs. IsSaid (here g) (closed_by xs) (suc (length xs)) step (Accepted a.one.next a.one.cost)) (sym front) two in
      let r = stopped taken (length ts) (here g) (closed_by ts) step end w s in
      let wrong : Accepted a.one.next a.one.cost ≡ r.saying = one_saying (here g) (closed_by ts) (suc (length ts)) step r.saying (Accepted a.one.next a.one.cost) (items_of_step step) r.fixed r.said three in
      absurd (subst IsFixedSaying (sym wrong) r.fixed)

  -- of a file with a proof block: two settled runs go equally far, and end alike

  module _ (script : List Tree) (plain : has_word script ≡ false) (r q : Report) (j k : Course) (w : FollowsScript r c script j) (v : FollowsScript q c script k) (d : IsIts c j) (e : IsIts c k) (h : IsSettled r.status) (l : IsSettled q.status) where
    one_steps : w.steps ≡ v.steps
    one_steps = one_script c script r q j k plain w v

    abbrev after : Course → List (List ℕ)
    after m = names_behind c.names m.tables

    script_lengths : length j.proof ≡ length k.proof
    script_lengths =
        elim (cases_order (length j.proof) (length k.proof)) [
          | inl same ↦ same
          | inr differ ↦ elim differ [
            | inl less ↦ absurd (no_further (w.room + nodes_along c.declarations (known_to c.own) c.game j.proof) j.proof k.proof j.last k.last (after j) (after k) (queries_in c.declarations) w.ends.left v.ends.left r.status d.leads e.leads (drawn_along c j d) (drawn_along c k e) (sym w.ends.split ∙ (one_steps ∙ v.ends.split)) w.ends.ends h less)
            | inr more ↦ absurd (no_further (v.room + nodes_along c.declarations (known_to c.own) c.game k.proof) k.proof j.proof k.last j.last (after k) (after j) (queries_in c.declarations) v.ends.left w.ends.left q.status e.leads d.leads (drawn_along c k e) (drawn_along c j d) (sym v.ends.split ∙ (sym one_steps ∙ w.ends.split)) v.ends.ends l more)
          ]
        ]

    script_same : j.proof ≡ k.proof
    script_same = (same_is c unlike j.proof k.proof j.last k.last (after j) (after k) w.ends.left v.ends.left d.leads e.leads (drawn_along c j d) (drawn_along c k e) (sym w.ends.split ∙ (one_steps ∙ v.ends.split)) script_lengths).0

    script_left : w.ends.left ≡ v.ends.left
    script_left = append_cancel_left (steps j.proof) w.ends.left v.ends.left (sym w.ends.split ∙ (one_steps ∙ (v.ends.split ∙ ap (λ xs. steps xs ++ v.ends.left) (sym script_same))))

    script_ends : r.status ≡ q.status
    script_ends =
        let room : ℕ = v.room + nodes_along c.declarations (known_to c.own) c.game k.proof in
        let last : k.last ≡ j.last = one_end k.proof j.proof k.last j.last e.leads d.leads (sym script_same) in
        let one : EndsScript room (length j.proof) (here k.last) (closed_by j.proof) (queries_in c.declarations) v.ends.left q.status = subst (λ xs. EndsScript room (length xs) (here k.last) (closed_by xs) (queries_in c.declarations) v.ends.left q.status) (sym script_same) v.ends.ends in
        let two : EndsScript room (length j.proof) (here j.last) (closed_by j.proof) (queries_in c.declarations) v.ends.left q.status = subst (λ x. EndsScript room (length j.proof) (here x) (closed_by j.proof) (queries_in c.declarations) v.ends.left q.status) last one in
        let three : EndsScript room (length j.proof) (here j.last) (closed_by j.proof) (queries_in c.declarations) w.ends.left q.status = subst (λ xs. EndsScript room (length j.proof) (here j.last) (closed_by j.proof) (queries_in c.declarations) xs q.status) (sym script_left) two in
        ends_alike (w.room + nodes_along c.declarations (known_to c.own) c.game j.proof) room (length j.proof) (here j.last) (closed_by j.proof) (queries_in c.declarations) w.ends.left r.status q.status w.ends.ends three h l

  module _ (r q : Report) (j k : Course) where
    lengths_by : (o : Option (List Tree)) → IsPlain o → Proceeds r c j o → Proceeds q c k o → IsIts c j → IsIts c k → IsSettled r.status → IsSettled q.status → length j.proof ≡ length k.proof
    lengths_by None n w v d e h l = absurd n
    lengths_by (Some script) n w v d e h l = script_lengths script n r q j k w v d e h l

    ends_by : (o : Option (List Tree)) → IsPlain o → Proceeds r c j o → Proceeds q c k o → IsIts c j → IsIts c k → IsSettled r.status → IsSettled q.status → r.status ≡ q.status
    ends_by None n w v d e h l = absurd n
    ends_by (Some script) n w v d e h l = script_ends script n r q j k w v d e h l

-- of a proof block without the word nothing is asked

plain_found : (o : Option (List Tree)) → IsPlain o → AreFound o → ⊥
plain_found None n f = n
plain_found (Some script) n f = (let e = sym n ∙ f in cc)

none_asked : (r : Report) (j k : Course) → IsPlain (block_of r) → AreFront r j k
none_asked r j k n = λ f. absurd (plain_found (block_of r) n f)

pub one_text : (source : Given) (r q : Report) (f g : File) (w : IsReportOf source r f) (v : IsReportOf source q g) → query_in r.command ≡ query_in q.command → IsPlain (block_of r) → IsSettled r.status → IsSettled q.status → text_of r f w.names w.course ≡ text_of q g v.names v.course
one_text source r q f g w v asked s h l =
    let c : Content = file_in r f w.names in
    let goes = proceeds source r q f g w v in
    let it = its source r q f g w v in
    ap₂ ◌++◌ (body_is source r q f g w v (none_asked r w.course v.course s) asked (lengths_by c (apart source r q f g w v) r q w.course v.course c.script s w.follows goes w.is it h l))
    (ap end_text (ends_by c (apart source r q f g w v) r q w.course v.course c.script s w.follows goes w.is it h l))
