-- The same of tests and of `find`, and of all processes.
use Rattle.std.proofs.Common.{◌≡◌, ℕ, suc, Bool, true, false, ◌⊎◌, inl, inr, List, [], ◌∷◌, ◌++◌, length, codes, refl, ap, sym, ◌∙◌, subst, Some}
use Rattle.std.specs.Str.{bytes_eq}
use Rattle.std.proofs.lemmas.Bool.{both_ways, cases_Bool}
use Rattle.cv_parse_tables.proofs.terminals.Naming.{text_test}
use Rattle.cv_oracle_laws.proofs.Texts.{same_kind}
use Rattle.std.proofs.lemmas.List.{append_assoc}
use Rattle.cv_lex.specs.Lexis.{Token, piece}
use Rattle.cv_lex.specs.declared.TokenKind.TheVariants as kind
use Rattle.cv_syntax_trees.specs.Tree.{Tree}
use Rattle.cv_parse_notation.specs.declared.sign.Mark.TheVariants as mark
use Rattle.cv_parse_notation.specs.declared.sign.Sign.{Sign}
use Rattle.cv_parse_notation.specs.declared.sign.Sign.TheVariants as sign
use Rattle.cv_parse_notation.specs.Form.{deeper, number, ◌▸◌}
use Rattle.cv_parse_notation.specs.Spells.{Each, IsSort, Kind, Spells, Use, next_is, is_mark, starts}
use Rattle.cv_parse_tables.proofs.spelling.Table.{found}
use Rattle.cv_parse_tables.specs.spelling.Spelling.{mark_of_text}
use Rattle.cv_parse_grammar.specs.Phrases.{Phrase, indices, listed}
use Rattle.cv_parse_grammar.specs.declared.role.Asked.TheVariants.{AParam}
use Rattle.cv_parse_grammar.specs.declared.role.Role.{Role}
use Rattle.cv_parse_grammar.specs.declared.role.Role.TheVariants.{Asks, BindsVariable}
use Rattle.cv_parse_grammar.specs.Phrases as sort
use Rattle.cv_parse_grammar.specs.Processes as row
use Rattle.cv_parse_grammar.specs.Rules.{heads, rule}
use Rattle.cv_parse_grammar.specs.Terms as terms
use Rattle.cv_oracles.specs.declared.form.Mode.TheVariants as mode
use Rattle.cv_oracles.specs.declared.frames.Opening.TheVariants.{If, Find}
use Rattle.cv_oracles.specs.declared.region.Region.TheVariants.{Process}
use Rattle.cv_oracles.specs.Regions.{is_barred}
use Rattle.cv_oracle_laws.specs.Tokens.{symbol, Is, IsKept, AreUpTo}
use Rattle.cv_oracle_laws.specs.Grammar.{Inputs, Input, Output, Branches, Stands, lone, beside, testing, finding, last, orfind}
use Rattle.cv_oracle_laws.proofs.Runs.{Opened, at, both, open_as, writes, Goes}
use Rattle.cv_oracle_laws.proofs.Moves.{at_text, moves, output_tests, output_finds}
use Rattle.cv_oracle_laws.proofs.Forward.{IsLeft, a_test, or_finds}
use Rattle.cv_oracle_laws.proofs.Phrases.{forward}
use Rattle.cv_oracle_laws.proofs.Spelled as spelled
use Rattle.cv_oracle_laws.proofs.Spelled.{AllOf, IsOne, is_of, one_front, then_front, at_sort, by_row, is_before, is_behind, is_both, is_either, is_level, is_made, is_may, is_sign, is_word}
use Rattle.cv_oracle_laws.proofs.Terms.{line_front, line_mark}
use Rattle.cv_oracle_laws.proofs.Telling.{tells, Fit, Tell, passed, tests_run}
use Rattle.cv_oracle_laws.proofs.Sources.{behind_mark, mark_no_never}
use Rattle.cv_oracle_laws.proofs.Views.{at_if, begun, lack_orfind}
use Rattle.cv_oracle_laws.proofs.Payloads.{found_find}
use Rattle.cv_oracle_laws.proofs.Back.{Back, BackBranch, Below, back_bracketed, back_definition, back_ending, back_foreach, back_nought, back_otherwise, back_parentheses, from_source, left_behind, long_both, signed}
use Rattle.cv_oracle_laws.proofs.Outputs.{back_binding, back_drawing, back_recording, back_sending}

-- one token of a test
test_kept : (o : Token) (fs : List Opened) (us : List Token) (s : Sign) (gs : List Sign) → (Fit (symbol (codes ":=")) s → ⊥) → ((t : Token) → Is t (codes "then") → Fit t s → ⊥) → Tell (writes (at mode.Test o fs) us) (s ∷ gs) →
    (t : Token) × (more : List Token) × (us ≡ t ∷ more) × IsKept t × (bytes_eq t.text (codes "then") ≡ false) × Tell (writes (at mode.Test o fs) more) gs
unfolding writes
test_kept o fs [] s gs ne nt a = absurd a
test_kept o fs (t ∷ us) s gs ne nt a = elim (text_test t.text (codes "then")) [
  | inl e ↦ absurd (nt t e.1 (tells (at_text (at mode.Test o fs) t us (codes "then") (moves (t ∷ []) [] (at mode.Output o fs)) e.1 refl).written refl a).0)
  | inr e ↦ elim (cases_Bool (is_barred Process t.text)) [
    | inl b ↦ let w = (tests_run o fs).at_bar t us e b in absurd (ne (tells w.1 refl a).0)
    | inr b ↦ (t, us, refl, b, e, (tells ((tests_run o fs).copies t us e b) refl a).1)
  ]
]

then_is_no_number : (v : ℕ) (t : Token) → Is t (codes "then") → Fit t (sign.Number v) → ⊥
then_is_no_number v t e f = let z : kind.Number v ≡ kind.Ident = sym f.0 ∙ same_kind t.kind kind.Ident (length t.text) 4 (sym f.1 ∙ ap piece e) in cc

then_is_no_label : (t : Token) → Is t (codes "then") → Fit t (sign.Mark mark.At) → ⊥
then_is_no_label t e f = let z : Some mark.At ≡ Some mark.Then = sym f.0 ∙ ap mark_of_text e ∙ found mark.Then in cc

-- up to a body
to_body : (o : Token) (fs : List Opened) (run : List Token) (mid : Token) (body : List Token) → AreUpTo (codes "then") run → Is mid (codes "then") → Goes (at mode.Test o fs) (run ++ mid ∷ body) (run ++ mid ∷ []) [] (at mode.Output o fs) body
to_body o fs run mid body u e = both (a_test o fs run (mid ∷ body) u) (at_text (at mode.Test o fs) mid body (codes "then") (moves (mid ∷ []) [] (at mode.Output o fs)) e refl)

module _ (n : ℕ) (low : Below n) where
  -- if M then P, and an `else` or nothing
  back_testing : (o : Token) (fs : List Opened) (us : List Token) (gs rest : List Sign) → spelled.Is (suc n) row.testing gs rest → Tell (writes (at mode.Output o fs) us) gs → Back (Output o) us gs rest
  unfolding writes
  back_testing o fs [] gs rest x a = absurd (signed [] (is_behind (is_made (is_level x).1)).1 a)
  back_testing o fs (t ∷ us) gs rest x a =
      let b = is_behind (is_made (is_level x).1) in
      let c = is_both b.2 in
      let s = is_behind c.2 in
      let p = is_both s.2 in
      let q = at_sort n sort.Output s.0 p.0 p.1 in
      let r = line_front (deeper sort.Term) refl c.1 in
      let g : b.0 ≡ r.signs ++ sign.Mark mark.Then ∷ s.0 = r.split ∙ ap (λ l. r.signs ++ l) s.1 in
      let e = at_if (begun o fs t us mark.If b.0 refl (signed (writes (at mode.Output o fs) (t ∷ us)) b.1 a)) in
      let F = open_as If o ∷ fs in
      let l = passed (at mode.Test o F) (at mode.Output o F) (codes "then") mark.Then line_mark (tests_run o F) r.signs us s.0 r.all (signed (writes (at mode.Test o F) us) g (tells (output_tests o fs t us e).written b.1 a).1) in
      let d = low.output o F l.more s.0 p.0 q l.tell in
      let f = forward d.stands F in
      let z = left_behind p.0 f.goes d.signs d.split d.long l.tell in
      let w = back_otherwise n low o f.oracle f.more (open_as If o) fs d.more p.0 rest (record { oracle = refl; test = refl; no_parenthesis = refl; left = f.left; no_orfind = λ h. refl }) p.2 z in
      from_source (ap (λ z. t ∷ z) l.split) (record {
        file = t ∷ l.run ++ l.last ∷ (d.file ++ w.file);
        oracles = d.oracles ++ w.oracles;
        more = w.more;
        stands = testing l.run l.last l.more d.file d.oracles d.more w.file w.oracles w.more e l.up l.is d.stands w.stands;
        signs = sign.Mark mark.If ∷ (r.signs ++ sign.Mark mark.Then ∷ (d.signs ++ w.signs));
        split =
            b.1 ∙ ap (λ z. sign.Mark mark.If ∷ z) (
            g ∙ ap (λ z. r.signs ++ sign.Mark mark.Then ∷ z) (d.split ∙ ap (λ z. d.signs ++ z) w.split ∙ sym (append_assoc d.signs w.signs rest))
            ∙ sym (append_assoc r.signs (sign.Mark mark.Then ∷ (d.signs ++ w.signs)) rest)
            );
        long = ap suc (long_both r.signs (sign.Mark mark.Then ∷ (d.signs ++ w.signs)) l.run (l.last ∷ (d.file ++ w.file)) (sym l.long) (ap suc (long_both d.signs w.signs d.file w.file d.long w.long)));
      })

  -- a branch
  pub back_branch : (o : Token) (fs : List Opened) (us : List Token) (gs rest : List Sign) → spelled.Is (suc n) row.branch gs rest → Tell (writes (at mode.Test o fs) us) gs → BackBranch o us gs rest
  back_branch o fs us gs rest x a =
      let b = is_both (is_made (is_level x).1) in
      let s = is_behind b.2 in
      let c = is_both s.2 in
      let h = is_behind c.2 in
      let q = at_sort n sort.Output h.0 rest h.2 in
      let f = then_front false line_mark (line_front (listed (indices BindsVariable (Asks AParam))) refl b.1) (then_front false line_mark (one_front false line_mark (sign.Mark mark.Suchthat) refl s.1) (line_front terms.condition refl c.1)) in
      let g : gs ≡ f.signs ++ sign.Mark mark.Then ∷ h.0 = f.split ∙ ap (λ l. f.signs ++ l) h.1 in
      let l = passed (at mode.Test o fs) (at mode.Output o fs) (codes "then") mark.Then line_mark (tests_run o fs) f.signs us h.0 f.all (signed (writes (at mode.Test o fs) us) g a) in
      record {
        run = l.run;
        mid = l.last;
        body = l.more;
        split_source = l.split;
        up = l.up;
        is = l.is;
        back = h.0;
        front = f.signs;
        split_signs = g;
        long = l.long;
        output = low.output o fs l.more h.0 rest q l.tell;
      }

  -- branches
  module _ (o : Token) (fs : List Opened) where
    abbrev F : List Opened
    F = open_as Find o ∷ fs

    -- behind the body of a branch
    behind_body : (us : List Token) (gs mid : List Sign) (B : BackBranch o us gs mid) → Tell (writes (at mode.Test o F) us) gs → Tell (writes (at mode.Output o F) B.body) B.back
    behind_body us gs mid B a =
        left_behind B.back (to_body o F B.run B.mid B.body B.up B.is) (B.front ++ sign.Mark mark.Then ∷ []) (B.split_signs ∙ sym (append_assoc B.front (sign.Mark mark.Then ∷ []) B.back))
        (long_both B.front (sign.Mark mark.Then ∷ []) B.run (B.mid ∷ []) (sym B.long) refl) (subst (λ l. Tell (writes (at mode.Test o F) l) gs) B.split_source a)

    -- and another one
    next_branch : (us : List Token) (gs mid inner behind rest : List Sign) (B : BackBranch o us gs mid) (more : List Token) → B.output.more ≡ more → (q : Token) (hs : List Opened) → IsLeft hs more → Tell (writes (at mode.Behind q (hs ++ F)) more) mid →
        mid ≡ sign.Mark mark.Orfind ∷ inner → IsOne n sort.ProcessBranch inner behind → ((vs : List Token) → BackBranch o vs inner behind → Tell (writes (at mode.Test o F) vs) inner → Back (Branches o) vs inner rest) → Back (Branches o) us gs rest
    unfolding writes
    next_branch us gs mid inner behind rest B [] g q hs left a e x go_on = absurd (signed (writes (at mode.Behind q (hs ++ F)) []) e a)
    next_branch us gs mid inner behind rest B (w ∷ vs) g q hs left a e x go_on =
        let d = B.output in
        let is = behind_mark q (hs ++ F) mark.Orfind refl (λ k. cc) w vs inner (signed (writes (at mode.Behind q (hs ++ F)) (w ∷ vs)) e a) in
        let none = left.no_orfind (ap (λ x. bytes_eq x (codes "orfind")) is) in
        let tell = (tells (or_finds o fs hs q w vs none is).written e a).1 in
        let r = go_on vs (low.branch o F vs inner behind x tell) tell in
        from_source B.split_source (record {
          file = B.run ++ B.mid ∷ (d.file ++ w ∷ r.file);
          oracles = d.oracles ++ r.oracles;
          more = r.more;
          stands = orfind B.run B.mid B.body d.file d.oracles w vs r.file r.oracles r.more B.up B.is (subst (Stands (Output o) B.body d.file d.oracles) g d.stands) is r.stands;
          signs = B.front ++ sign.Mark mark.Then ∷ (d.signs ++ sign.Mark mark.Orfind ∷ r.signs);
          split =
              B.split_signs
              ∙ ap (λ z. B.front ++ sign.Mark mark.Then ∷ z) (d.split ∙ ap (λ z. d.signs ++ z) (e ∙ ap (λ z. sign.Mark mark.Orfind ∷ z) r.split) ∙ sym (append_assoc d.signs (sign.Mark mark.Orfind ∷ r.signs) rest))
              ∙ sym (append_assoc B.front (sign.Mark mark.Then ∷ (d.signs ++ sign.Mark mark.Orfind ∷ r.signs)) rest);
          long = long_both B.front (sign.Mark mark.Then ∷ (d.signs ++ sign.Mark mark.Orfind ∷ r.signs)) B.run (B.mid ∷ (d.file ++ w ∷ r.file)) (sym B.long) (ap suc (long_both d.signs (sign.Mark mark.Orfind ∷ r.signs) d.file (w ∷ r.file) d.long (ap suc r.long)));
        })

    back_branches : (l : List Tree) (us : List Token) (gs mid rest : List Sign) (uses : List (Use Role)) (k : Kind → Bool) → ((g : List Sign) → next_is k g ≡ next_is (is_mark mark.Orfind) g) → BackBranch o us gs mid → Tell (writes (at mode.Test o F) us) gs →
        Each (Spells heads true (IsSort heads rule n) (mark.Orfind ▸ deeper sort.ProcessBranch)) true k mid l uses rest → Back (Branches o) us gs rest
    back_branches [] us gs mid rest uses k same B a x =
        let d = B.output in
        let f = forward d.stands F in
        let z = left_behind mid f.goes d.signs d.split d.long (behind_body us gs mid B a) in
        from_source B.split_source (record {
          file = B.run ++ B.mid ∷ d.file;
          oracles = d.oracles;
          more = d.more;
          stands = last B.run B.mid B.body d.file d.oracles d.more B.up B.is d.stands (lack_orfind f.oracle (f.more ++ F) d.more mid z (sym (same mid) ∙ x.1 refl));
          signs = B.front ++ sign.Mark mark.Then ∷ d.signs;
          split = B.split_signs ∙ ap (λ z. B.front ++ sign.Mark mark.Then ∷ z) (d.split ∙ ap (λ z. d.signs ++ z) x.0.tokens) ∙ sym (append_assoc B.front (sign.Mark mark.Then ∷ d.signs) rest);
          long = long_both B.front (sign.Mark mark.Then ∷ d.signs) B.run (B.mid ∷ d.file) (sym B.long) (ap suc d.long);
        })
    back_branches (t ∷ l) us gs mid rest uses k same B a x =
        let d = B.output in
        let f = forward d.stands F in
        let z = left_behind mid f.goes d.signs d.split d.long (behind_body us gs mid B a) in
        let y : spelled.Is (suc n) (mark.Orfind ▸ deeper sort.ProcessBranch) mid x.mid = record { value = t; uses = x.front; spelled = x.first } in
        let b = is_behind y in
        next_branch us gs mid b.0 x.mid rest B d.more refl f.oracle f.more f.left z b.1 (at_sort n sort.ProcessBranch b.0 x.mid b.2) (λ vs C c. back_branches l vs b.0 x.mid rest x.back k same C c x.second)

  -- the label of a `find`, before its first branch
  labelled : (o : Token) (us : List Token) (gs mid rest : List Sign) (a b : Token) (vs : List Token) (v : ℕ) → us ≡ a ∷ b ∷ vs → gs ≡ sign.Mark mark.At ∷ sign.Number v ∷ mid → AreUpTo (codes "then") (a ∷ b ∷ []) → BackBranch o vs mid rest → BackBranch o us gs rest
  labelled o us gs mid rest a b vs v e f u B = record {
    run = a ∷ b ∷ B.run;
    mid = B.mid;
    body = B.body;
    split_source = e ∙ ap (λ z. a ∷ b ∷ z) B.split_source;
    up = (u.0, (u.1.0, B.up));
    is = B.is;
    back = B.back;
    front = sign.Mark mark.At ∷ sign.Number v ∷ B.front;
    split_signs = f ∙ ap (λ z. sign.Mark mark.At ∷ sign.Number v ∷ z) B.split_signs;
    long = ap (λ z. suc (suc z)) B.long;
    output = B.output;
  }

  first_branch : (o : Token) (fs : List Opened) (us : List Token) (gs mid rest : List Sign) → (gs ≡ mid) ⊎ spelled.Is (suc n) (mark.At ▸ number) gs mid → IsOne n sort.ProcessBranch mid rest →
      Tell (writes (at mode.Test o fs) us) gs → BackBranch o us gs rest
  first_branch o fs us gs mid rest (inl e) q a = subst (λ g. BackBranch o us g rest) (sym e) (low.branch o fs us mid rest q (signed (writes (at mode.Test o fs) us) e a))
  first_branch o fs us gs mid rest (inr x) q a =
      let b = is_behind x in
      let v = b.2.value in
      let e : gs ≡ sign.Mark mark.At ∷ sign.Number v ∷ mid = b.1 ∙ ap (λ z. sign.Mark mark.At ∷ z) b.2.spelled.tokens in
      let l = test_kept o fs us (sign.Mark mark.At) (sign.Number v ∷ mid) (mark_no_never mark.At (λ z. cc)) then_is_no_label (signed (writes (at mode.Test o fs) us) e a) in
      let m = test_kept o fs l.1 (sign.Number v) mid (λ f. let z : kind.Symbol ≡ kind.Number v = f.0 in cc) (then_is_no_number v) l.5 in
      labelled o us gs mid rest l.0 m.0 m.1 v (l.2 ∙ ap (λ z. l.0 ∷ z) m.2) e ((l.3, l.4), ((m.3, m.4), tt)) (low.branch o fs m.1 mid rest q m.5)

  -- a `find` with its branches, and an `else` or nothing
  back_finding : (o : Token) (fs : List Opened) (us : List Token) (gs rest : List Sign) → spelled.Is (suc n) row.finding gs rest → Tell (writes (at mode.Output o fs) us) gs → Back (Output o) us gs rest
  unfolding writes
  back_finding o fs [] gs rest x a =
      let b = is_both (is_made (is_both (is_made (is_level x).1)).1) in
      absurd (signed [] b.1.spelled.tokens a)
  back_finding o fs (t ∷ us) gs rest x a =
      let b = is_both (is_made (is_level x).1) in
      let c = is_both (is_made b.1) in
      let m = is_both c.2 in
      let s = is_both m.2 in
      let k = c.1.value in
      let e = found_find o fs t us k c.0 (signed (writes (at mode.Output o fs) (t ∷ us)) c.1.spelled.tokens a) in
      let tell = (tells (output_finds o fs t us e).written c.1.spelled.tokens a).1 in
      let B = first_branch o (open_as Find o ∷ fs) us c.0 m.0 s.0 (elim (is_may m.1) [ inl h ↦ inl h.0 | inr h ↦ inr h ]) (at_sort n sort.ProcessBranch m.0 s.0 s.1) tell in
      let r = back_branches o fs s.2.value us c.0 s.0 b.0 s.2.uses (λ k. starts {R = Role} heads (mark.Orfind ▸ deeper sort.ProcessBranch) k) (λ g. refl) B tell s.2.spelled in
      let f = forward r.stands fs in
      let z = left_behind b.0 f.goes r.signs r.split r.long tell in
      let w = back_otherwise n low o f.oracle f.more (open_as Find o) fs r.more b.0 rest (record { oracle = refl; test = refl; no_parenthesis = refl; left = f.left; no_orfind = λ h. absurd (both_ways _ f.lack h) }) b.2 z in
      record {
        file = t ∷ (r.file ++ w.file);
        oracles = r.oracles ++ w.oracles;
        more = w.more;
        stands = finding e r.stands w.stands;
        signs = sign.Find k ∷ (r.signs ++ w.signs);
        split = c.1.spelled.tokens ∙ ap (λ z. sign.Find k ∷ z) (r.split ∙ ap (λ z. r.signs ++ z) w.split ∙ sym (append_assoc r.signs w.signs rest));
        long = ap suc (long_both r.signs w.signs r.file w.file r.long w.long);
      }

  -- processes

  pub back_output : (o : Token) (fs : List Opened) (us : List Token) (gs rest : List Sign) → spelled.Is (suc n) row.output gs rest → Tell (writes (at mode.Output o fs) us) gs → Back (Output o) us gs rest
  back_output o fs us gs rest x a = elim (is_either x) [
    | inl x ↦ back_ending n low o fs us gs rest x a
    | inr x ↦ elim (is_either x) [
      | inl x ↦ back_parentheses n low o fs us gs rest x a
      | inr x ↦ elim (is_either x) [
        | inl x ↦ back_sending n low o fs us gs rest x a
        | inr x ↦ elim (is_either x) [
          | inl x ↦ back_drawing n low o fs us gs rest x a
          | inr x ↦ elim (is_either x) [
            | inl x ↦ back_binding n low o fs us gs rest x a
            | inr x ↦ elim (is_either x) [
              | inl x ↦ back_recording n low o fs us gs rest x a
              | inr x ↦ elim (is_either x) [
                | inl x ↦ back_testing o fs us gs rest x a
                | inr x ↦ back_finding o fs us gs rest x a
              ]
            ]
          ]
        ]
      ]
    ]
  ]

  pub back_input : (p : Token) (fs : List Opened) (us : List Token) (gs rest : List Sign) → spelled.Is (suc n) row.input gs rest → Tell (writes (at mode.Input p fs) us) gs → Back Input us gs rest
  back_input p fs us gs rest x a = elim (is_either x) [
    | inl x ↦ back_nought n low p fs us gs rest x a
    | inr x ↦ elim (is_either x) [
      | inl x ↦ back_bracketed n low p fs us gs rest x a
      | inr x ↦ elim (is_either x) [
        | inl x ↦ back_foreach n low p fs us gs rest x a
        | inr x ↦ back_definition n low p fs us gs rest x a
      ]
    ]
  ]

  pub back_inputs : (p : Token) (fs : List Opened) (us : List Token) (gs rest : List Sign) → spelled.Is (suc n) row.inputs gs rest → Tell (writes (at mode.Input p fs) us) gs → Back Inputs us gs rest
  unfolding writes
  back_inputs p fs us gs rest x a =
      let b = is_both (is_made x) in
      let d = back_input p fs us gs b.0 b.1 a in
      let l = forward d.stands p fs in
      let z = left_behind b.0 l.goes d.signs d.split d.long a in
      elim (is_may b.2) [
        | inl e ↦ record { file = d.file; oracles = d.oracles; more = d.more; stands = lone d.stands; signs = d.signs; split = d.split ∙ ap (λ l. d.signs ++ l) e.0; long = d.long }
        | inr y ↦
            let c = is_both (is_made y) in
            let e = is_sign (is_level c.1).1 in
            beside_it us gs b.0 rest d d.more refl l.oracle (l.more ++ fs) z c.0 e (at_sort n sort.Inputs c.0 rest c.2) low
      ]
    where
      beside_it : (us : List Token) (gs mid rest : List Sign) (d : Back Input us gs mid) (more : List Token) → d.more ≡ more → (q : Token) (hs : List Opened) → Tell (writes (at mode.Behind q hs) more) mid → (inner : List Sign) → mid ≡ sign.Mark mark.Bar ∷ inner → IsOne n sort.Inputs inner rest → Below n → Back Inputs us gs rest
      beside_it us gs mid rest d [] g q hs a inner e x low = absurd (signed (writes (at mode.Behind q hs) []) e a)
      beside_it us gs mid rest d (t ∷ more) g q hs a inner e x low =
          let is = behind_mark q hs mark.Bar refl (λ k. cc) t more inner (signed (writes (at mode.Behind q hs) (t ∷ more)) e a) in
          let r = low.inputs q hs more inner rest x (tells (at_text (at mode.Behind q hs) t more (codes "|") (moves (t ∷ []) [] (at mode.Input q hs)) is refl).written e a).1 in
          record {
            file = d.file ++ t ∷ r.file;
            oracles = d.oracles ++ r.oracles;
            more = r.more;
            stands = beside t (subst (Stands Input us d.file d.oracles) g d.stands) is r.stands;
            signs = d.signs ++ sign.Mark mark.Bar ∷ r.signs;
            split = d.split ∙ ap (λ z. d.signs ++ z) (e ∙ ap (λ z. sign.Mark mark.Bar ∷ z) r.split) ∙ sym (append_assoc d.signs (sign.Mark mark.Bar ∷ r.signs) rest);
            long = long_both d.signs (sign.Mark mark.Bar ∷ r.signs) d.file (t ∷ r.file) d.long (ap suc r.long);
          }
