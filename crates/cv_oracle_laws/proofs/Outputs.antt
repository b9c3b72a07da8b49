-- The same of all other output processes.
use Rattle.std.proofs.Common.{◌≡◌, ℕ, suc, ◌<◌, true, false, inl, inr, List, [], ◌∷◌, ◌++◌, length, codes, refl, ap, sym, ◌∙◌, arith, Some}
use Rattle.std.specs.Str.{bytes_eq}
use Rattle.std.proofs.lemmas.List.{append_assoc}
use Rattle.std.proofs.lemmas.Slice.Eq.{bytes_eq-Decides}
use Rattle.cv_lex.specs.Lexis.{Token}
use Rattle.cv_parse_notation.specs.declared.sign.Mark.TheVariants as mark
use Rattle.cv_parse_notation.specs.declared.sign.Sign.{Sign}
use Rattle.cv_parse_notation.specs.declared.sign.Sign.TheVariants as sign
use Rattle.cv_parse_notation.specs.Form.{deeper}
use Rattle.cv_parse_tables.proofs.spelling.Table.{found}
use Rattle.cv_parse_tables.specs.terminals.Signs.{first_text}
use Rattle.cv_parse_grammar.specs.depth.Files.{most_levels}
use Rattle.cv_parse_grammar.specs.Phrases.{Phrase, listed}
use Rattle.cv_parse_notation.specs.declared.script.ScriptWord.{ScriptWord}
use Rattle.cv_parse_grammar.specs.Phrases as sort
use Rattle.cv_parse_grammar.specs.Processes as row
use Rattle.cv_oracles.specs.declared.form.Mode.TheVariants as mode
use Rattle.cv_oracles.specs.Regions.{is_name}
use Rattle.cv_oracle_laws.specs.Tokens.{word, symbol, Is, IsKept, AreUpTo, Lack}
use Rattle.cv_oracle_laws.specs.Grammar.{Output, returning, sending, drawing, binding, recording}
use Rattle.cv_oracle_laws.proofs.Runs.{Opened, at, writes}
use Rattle.cv_oracle_laws.proofs.Moves.{at_text, moves, output_returns, output_sends, output_records, output_draws, output_lets}
use Rattle.cv_oracle_laws.proofs.Forward.{payload_opens}
use Rattle.cv_oracle_laws.proofs.Spelled as spelled
use Rattle.cv_oracle_laws.proofs.Spelled.{AllOf, IsOne, is_of, at_sort, by_row, is_before, is_behind, is_both, is_either, is_level, is_made, is_may, is_sign, is_word}
use Rattle.cv_oracle_laws.proofs.Terms.{line_front, line_mark}
use Rattle.cv_oracle_laws.proofs.Telling.{tells, Fit, Tell, passed, same_text, lines_run, terms_run}
use Rattle.cv_oracle_laws.proofs.Sources.{colon_kept, gets_alone, mark_no_never, random_alone, type_kept, word_no_never}
use Rattle.cv_oracle_laws.proofs.Views.{at_event, at_let, at_new, at_out, begun}
use Rattle.cv_oracle_laws.proofs.Shapes.{Sending, bool, indexing, listing, named, no_closing, no_opening, sending_of, single, type_of}
use Rattle.cv_oracle_laws.proofs.Payloads.{returned}
use Rattle.cv_oracle_laws.proofs.Back.{Back, Below, back_continuation, from_source, long_both, signed}

-- what is written for `return` behind `out`
abbrev emptied : Token → List Opened → List Token → List Token
emptied o fs us = symbol (codes "(") ∷ o ∷ symbol (codes ",") ∷ symbol (codes "(") ∷ symbol (codes ")") ∷ symbol (codes ")") ∷ writes (at mode.Behind o fs) us

abbrev filled : Token → List Opened → Token → List Token → List Token
filled o fs p us = symbol (codes "(") ∷ o ∷ symbol (codes ",") ∷ writes (at (mode.Payload 0) o fs) (p ∷ us)

-- one token alone
one_run : (run : List Token) → length run ≡ 1 → AreUpTo (codes ";") run → (T : Token) × (run ≡ T ∷ []) × IsKept T × Lack (T ∷ []) (codes ";")
one_run [] l u = absurd (omega arith)
one_run (T ∷ []) l ((k, e), u) = (T, refl, k, e)
one_run (T ∷ U ∷ run) l u = absurd (omega arith)

module _ (n : ℕ) (low : Below n) where
  -- return, with or without something
  pub back_sending : (o : Token) (fs : List Opened) (us : List Token) (gs rest : List Sign) → spelled.Is (suc n) row.outgoing gs rest → Tell (writes (at mode.Output o fs) us) gs → Back (Output o) us gs rest
  unfolding writes
  back_sending o fs [] gs rest x a = absurd (signed [] (is_behind (is_made (is_level x).1)).1 a)
  back_sending o fs (t ∷ us) gs rest x a =
      let b = is_behind (is_made (is_level x).1) in
      let c = is_both b.2 in
      let e = at_out (begun o fs t us mark.Out b.0 refl (signed (writes (at mode.Output o fs) (t ∷ us)) b.1 a)) in
      let less : n < most_levels = low.few in
      let s = sending_of n b.0 c.0 less (by_row n sort.Sending b.0 c.0 (at_sort n sort.Sending b.0 c.0 c.1)) in
      elim e.1 [
        | inl l ↦ empty e.0 l b.0 c.0 b.1 s c.2 (tells (output_returns o fs t us e.0 l).written b.1 a).1
        | inr l ↦ full us e.0 l b.0 c.0 b.1 s c.2 a
      ]
    where
      -- `return` alone
      empty : Is t (codes "return") → Lack us (codes "(") → (inner mid : List Sign) → gs ≡ sign.Mark mark.Out ∷ inner → Sending inner mid → spelled.Is (suc n) row.continuation mid rest →
          Tell (emptied o fs us) inner → Back (Output o) (t ∷ us) gs rest
      empty e l inner mid f (indexing x w hs h) c a = let z : Some mark.Comma ≡ Some mark.OpenSquare = sym (found mark.Comma) ∙ (signed (emptied o fs us) h a).1.1.0.0 in absurd (cc)
      empty e l inner mid f (single x w s hs no_atoms no_open h) c a = absurd (no_opening (symbol (codes "(")) s hs refl no_atoms no_open (signed (emptied o fs us) h a).1.1.1.0)
      empty e l inner mid f (listing x w [] k h) c a =
          let tell = (signed (emptied o fs us) h a).1.1.1.1.1.1 in
          let d = back_continuation n low o o fs us mid rest c tell in
          record {
            file = word (codes "out") ∷ symbol (codes "(") ∷ o ∷ symbol (codes ",") ∷ symbol (codes "(") ∷ symbol (codes ")") ∷ symbol (codes ")") ∷ d.file;
            oracles = d.oracles;
            more = d.more;
            stands = returning e l d.stands;
            signs = sign.Mark mark.Out ∷ sign.Mark mark.Open ∷ sign.Word x w ∷ sign.Mark mark.Comma ∷ sign.Mark mark.Open ∷ sign.Mark mark.Close ∷ sign.Mark mark.Close ∷ d.signs;
            split = f ∙ ap (λ z. sign.Mark mark.Out ∷ z) (h ∙ ap (λ z. sign.Mark mark.Open ∷ sign.Word x w ∷ sign.Mark mark.Comma ∷ sign.Mark mark.Open ∷ sign.Mark mark.Close ∷ sign.Mark mark.Close ∷ z) d.split);
            long = ap (λ z. suc (suc (suc (suc (suc (suc (suc z))))))) d.long;
          }
      empty e l inner mid f (listing x w (s ∷ ms) k h) c a = absurd (no_closing s ms k (signed (emptied o fs us) h a).1.1.1.1.0)

      -- `return (..)`
      full : (us : List Token) → Is t (codes "return") → bytes_eq (first_text us) (codes "(") ≡ true → (inner mid : List Sign) → gs ≡ sign.Mark mark.Out ∷ inner → Sending inner mid → spelled.Is (suc n) row.continuation mid rest →
          Tell (writes (at mode.Output o fs) (t ∷ us)) gs → Back (Output o) (t ∷ us) gs rest
      full [] e l inner mid f s c a = absurd (cc)
      full (p ∷ us) e l inner mid f s c a =
          let i = (bytes_eq-Decides p.text (codes "(")).0 l in
          within p us e i inner mid f s c (tells (output_sends o fs t p us e i).written f a).1
        where
          within : (p : Token) (us : List Token) → Is t (codes "return") → Is p (codes "(") → (inner mid : List Sign) → gs ≡ sign.Mark mark.Out ∷ inner → Sending inner mid → spelled.Is (suc n) row.continuation mid rest →
              Tell (filled o fs p us) inner → Back (Output o) (t ∷ p ∷ us) gs rest
          within p us e i inner mid f (indexing x w hs h) c a = let z : Some mark.Comma ≡ Some mark.OpenSquare = sym (found mark.Comma) ∙ (signed (filled o fs p us) h a).1.1.0.0 in absurd (cc)
          within p us e i inner mid f (single x w s hs no_atoms no_open h) c a =
              absurd (no_opening p s hs i no_atoms no_open (tells (payload_opens o fs 0 p us (omega arith) i).written refl (signed (filled o fs p us) h a).1.1.1).0)
          within p us e i inner mid f (listing x w ms k h) c a =
              let r = returned o fs 0 ms us mid k (tells (payload_opens o fs 0 p us (omega arith) i).written refl (signed (filled o fs p us) h a).1.1.1).1 in
              let d = back_continuation n low o o fs r.more mid rest c r.tell in
              from_source (ap (λ z. t ∷ p ∷ z) r.split) (record {
                file = word (codes "out") ∷ symbol (codes "(") ∷ o ∷ symbol (codes ",") ∷ p ∷ r.run ++ symbol (codes ")") ∷ symbol (codes ")") ∷ d.file;
                oracles = d.oracles;
                more = d.more;
                stands = sending r.run r.last r.more d.file d.oracles d.more e i r.matched r.is d.stands;
                signs = sign.Mark mark.Out ∷ sign.Mark mark.Open ∷ sign.Word x w ∷ sign.Mark mark.Comma ∷ sign.Mark mark.Open ∷ (ms ++ sign.Mark mark.Close ∷ sign.Mark mark.Close ∷ d.signs);
                split =
                    f ∙ ap (λ z. sign.Mark mark.Out ∷ z) (h ∙ ap (λ z. sign.Mark mark.Open ∷ sign.Word x w ∷ sign.Mark mark.Comma ∷ sign.Mark mark.Open ∷ z) (
                    ap (λ z. ms ++ sign.Mark mark.Close ∷ sign.Mark mark.Close ∷ z) d.split ∙ sym (append_assoc ms (sign.Mark mark.Close ∷ sign.Mark mark.Close ∷ d.signs) rest)
                    ));
                long = ap (λ z. suc (suc (suc (suc (suc z))))) (long_both ms (sign.Mark mark.Close ∷ sign.Mark mark.Close ∷ d.signs) r.run (symbol (codes ")") ∷ symbol (codes ")") ∷ d.file) (sym r.long) (ap (λ z. suc (suc z)) d.long));
              })

  -- x <- R T; P
  drawn : (o : Token) (fs : List Opened) (t arrow : Token) (us : List Token) (s : Sign) (mid gs rest : List Sign) (x : ℕ) (w : ScriptWord) → is_name t.kind t.text ≡ true → Is arrow (codes "<-") → (Fit (symbol (codes ":=")) s → ⊥) → is_of false line_mark s ≡ true →
      gs ≡ sign.Mark mark.New ∷ sign.Word x w ∷ sign.Mark mark.Colon ∷ s ∷ sign.Mark mark.Semicolon ∷ mid → IsOne n sort.Output mid rest → Tell (writes (at mode.Arrow o fs) (arrow ∷ us)) (s ∷ sign.Mark mark.Semicolon ∷ mid) → Back (Output o) (t ∷ arrow ∷ us) gs rest
  drawn o fs t arrow us s mid gs rest x w name i ne of f q a =
      let r = random_alone o fs us s (sign.Mark mark.Semicolon ∷ mid) ne (tells (at_text (at mode.Arrow o fs) arrow us (codes "<-") (moves [] [] (at mode.Random o fs)) i refl).written refl a) in
      let l = passed (at mode.Line o fs) (at mode.Output o fs) (codes ";") mark.Semicolon line_mark (lines_run o fs) (s ∷ []) r.more mid (of, tt) r.tell in
      let d = low.output o fs l.more mid rest q l.tell in
      let T = one_run l.run l.long l.up in
      from_source (ap (λ z. t ∷ arrow ∷ z) (r.split ∙ ap (λ z. r.first ∷ z) (l.split ∙ ap (λ z. z ++ l.last ∷ l.more) T.1))) (record {
        file = word (codes "new") ∷ t ∷ symbol (codes ":") ∷ T.0 ∷ l.last ∷ d.file;
        oracles = d.oracles;
        more = d.more;
        stands = drawing name i r.is T.2 T.3 l.is d.stands;
        signs = sign.Mark mark.New ∷ sign.Word x w ∷ sign.Mark mark.Colon ∷ s ∷ sign.Mark mark.Semicolon ∷ d.signs;
        split = f ∙ ap (λ z. sign.Mark mark.New ∷ sign.Word x w ∷ sign.Mark mark.Colon ∷ s ∷ sign.Mark mark.Semicolon ∷ z) d.split;
        long = ap (λ z. suc (suc (suc (suc (suc z))))) d.long;
      })

  drawn_by : (o : Token) (fs : List Opened) (t : Token) (us : List Token) (s : Sign) (mid gs rest : List Sign) (x : ℕ) (w : ScriptWord) → is_name t.kind t.text ≡ true → bytes_eq (first_text us) (codes "<-") ≡ true → (Fit (symbol (codes ":=")) s → ⊥) → is_of false line_mark s ≡ true →
      gs ≡ sign.Mark mark.New ∷ sign.Word x w ∷ sign.Mark mark.Colon ∷ s ∷ sign.Mark mark.Semicolon ∷ mid → IsOne n sort.Output mid rest → Tell (writes (at mode.Output o fs) (t ∷ us)) gs → Back (Output o) (t ∷ us) gs rest
  drawn_by o fs t [] s mid gs rest x w name l ne of f q a = absurd (cc)
  drawn_by o fs t (arrow ∷ us) s mid gs rest x w name l ne of f q a =
      let i = (bytes_eq-Decides arrow.text (codes "<-")).0 l in
      drawn o fs t arrow us s mid gs rest x w name i ne of f q (tells (output_draws o fs t arrow us name i).written f a).1.1.1

  pub back_drawing : (o : Token) (fs : List Opened) (us : List Token) (gs rest : List Sign) → spelled.Is (suc n) row.restriction gs rest → Tell (writes (at mode.Output o fs) us) gs → Back (Output o) us gs rest
  unfolding writes
  back_drawing o fs [] gs rest x a = absurd (signed [] (is_behind (is_made (is_level x).1)).1 a)
  back_drawing o fs (t ∷ us) gs rest x a =
      let b = is_behind (is_made (is_level x).1) in
      let c = is_both b.2 in
      let s = is_behind c.2 in
      let v = is_both c.1 in
      let w = is_word v.1 in
      let k = is_behind v.2 in
      let q = at_sort n sort.Output s.0 rest s.2 in
      let e = at_new (begun o fs t us mark.New b.0 refl (signed (writes (at mode.Output o fs) (t ∷ us)) b.1 a)) in
      let g : gs ≡ sign.Mark mark.New ∷ sign.Word w.0 w.1 ∷ sign.Mark mark.Colon ∷ k.0 = b.1 ∙ ap (λ l. sign.Mark mark.New ∷ l) (w.2 ∙ ap (λ l. sign.Word w.0 w.1 ∷ l) k.1) in
      elim (type_of (suc n) k.0 c.0 k.2) [
        | named y z f ↦ drawn_by o fs t us (sign.Word y z) s.0 gs rest w.0 w.1 e.0 e.1 (word_no_never y z) refl (g ∙ ap (λ l. sign.Mark mark.New ∷ sign.Word w.0 w.1 ∷ sign.Mark mark.Colon ∷ l) (f ∙ ap (λ l. sign.Word y z ∷ l) s.1)) q a
        | bool f ↦ drawn_by o fs t us (sign.Mark mark.Bool) s.0 gs rest w.0 w.1 e.0 e.1 (mark_no_never mark.Bool (λ z. cc)) refl (g ∙ ap (λ l. sign.Mark mark.New ∷ sign.Word w.0 w.1 ∷ sign.Mark mark.Colon ∷ l) (f ∙ ap (λ l. sign.Mark mark.Bool ∷ l) s.1)) q a
      ]

  -- x: T <- M; P
  bound : (o : Token) (fs : List Opened) (t : Token) (us : List Token) (s : Sign) (ms mid gs rest : List Sign) (x : ℕ) (w : ScriptWord) → is_name t.kind t.text ≡ true → (Fit (symbol (codes ":=")) s → ⊥) → AllOf false line_mark ms →
      gs ≡ sign.Mark mark.Let ∷ sign.Word x w ∷ sign.Mark mark.Colon ∷ s ∷ sign.Mark mark.Equal ∷ (ms ++ sign.Mark mark.In ∷ mid) → IsOne n sort.Output mid rest →
      Tell (writes (at mode.Colon o fs) us) (sign.Mark mark.Colon ∷ s ∷ sign.Mark mark.Equal ∷ (ms ++ sign.Mark mark.In ∷ mid)) → Back (Output o) (t ∷ us) gs rest
  bound o fs t us s ms mid gs rest x w name ne all f q a =
      let k = colon_kept o fs us (sign.Mark mark.Colon) (s ∷ sign.Mark mark.Equal ∷ (ms ++ sign.Mark mark.In ∷ mid)) (mark_no_never mark.Colon (λ z. cc)) a in
      let T = type_kept o fs k.more s (sign.Mark mark.Equal ∷ (ms ++ sign.Mark mark.In ∷ mid)) ne k.tell in
      let g = gets_alone o fs T.more (sign.Mark mark.Equal) (ms ++ sign.Mark mark.In ∷ mid) (mark_no_never mark.Equal (λ z. cc)) T.tell in
      let l = passed (at mode.Term o fs) (at mode.Output o fs) (codes ";") mark.In line_mark (terms_run o fs) ms g.more mid all g.tell.1 in
      let d = low.output o fs l.more mid rest q l.tell in
      from_source (ap (λ z. t ∷ z) (k.split ∙ ap (λ z. k.first ∷ z) (T.split ∙ ap (λ z. T.first ∷ z) (g.split ∙ ap (λ z. g.first ∷ z) l.split)))) (record {
        file = word (codes "let") ∷ t ∷ k.first ∷ T.first ∷ symbol (codes "=") ∷ l.run ++ word (codes "in") ∷ d.file;
        oracles = d.oracles;
        more = d.more;
        stands = binding l.run l.last l.more d.file d.oracles d.more name (same_text k.first mark.Colon refl k.fit) T.kept g.is l.up l.is d.stands;
        signs = sign.Mark mark.Let ∷ sign.Word x w ∷ sign.Mark mark.Colon ∷ s ∷ sign.Mark mark.Equal ∷ (ms ++ sign.Mark mark.In ∷ d.signs);
        split = f ∙ ap (λ z. sign.Mark mark.Let ∷ sign.Word x w ∷ sign.Mark mark.Colon ∷ s ∷ sign.Mark mark.Equal ∷ z) (ap (λ z. ms ++ sign.Mark mark.In ∷ z) d.split ∙ sym (append_assoc ms (sign.Mark mark.In ∷ d.signs) rest));
        long = ap (λ z. suc (suc (suc (suc (suc z))))) (long_both ms (sign.Mark mark.In ∷ d.signs) l.run (word (codes "in") ∷ d.file) (sym l.long) (ap suc d.long));
      })

  bound_by : (o : Token) (fs : List Opened) (t : Token) (us : List Token) (gs rest : List Sign) (x : ℕ) (w : ScriptWord) (s : Sign) (ms mid : List Sign) → is_name t.kind t.text ≡ true → bytes_eq (first_text us) (codes "<-") ≡ false → (Fit (symbol (codes ":=")) s → ⊥) → AllOf false line_mark ms →
      gs ≡ sign.Mark mark.Let ∷ sign.Word x w ∷ sign.Mark mark.Colon ∷ s ∷ sign.Mark mark.Equal ∷ (ms ++ sign.Mark mark.In ∷ mid) → IsOne n sort.Output mid rest → Tell (writes (at mode.Output o fs) (t ∷ us)) gs → Back (Output o) (t ∷ us) gs rest
  bound_by o fs t us gs rest x w s ms mid name l ne all f q a =
      bound o fs t us s ms mid gs rest x w name ne all f q (tells (output_lets o fs t us name l).written f a).1.1

  pub back_binding : (o : Token) (fs : List Opened) (us : List Token) (gs rest : List Sign) → spelled.Is (suc n) row.assignment gs rest → Tell (writes (at mode.Output o fs) us) gs → Back (Output o) us gs rest
  unfolding writes
  back_binding o fs [] gs rest x a = absurd (signed [] (is_behind (is_made (is_level x).1)).1 a)
  back_binding o fs (t ∷ us) gs rest x a =
      let b = is_behind (is_made (is_level x).1) in
      let c = is_both b.2 in
      let s = is_behind c.2 in
      let m = is_both s.2 in
      let i = is_behind m.2 in
      let v = is_both c.1 in
      let w = is_word v.1 in
      let k = is_behind v.2 in
      let q = at_sort n sort.Output i.0 rest i.2 in
      let r = line_front (deeper sort.Term) refl m.1 in
      let e = at_let (begun o fs t us mark.Let b.0 refl (signed (writes (at mode.Output o fs) (t ∷ us)) b.1 a)) in
      let g : gs ≡ sign.Mark mark.Let ∷ sign.Word w.0 w.1 ∷ sign.Mark mark.Colon ∷ k.0 = b.1 ∙ ap (λ l. sign.Mark mark.Let ∷ l) (w.2 ∙ ap (λ l. sign.Word w.0 w.1 ∷ l) k.1) in
      let h : c.0 ≡ sign.Mark mark.Equal ∷ (r.signs ++ sign.Mark mark.In ∷ i.0) = s.1 ∙ ap (λ l. sign.Mark mark.Equal ∷ l) (r.split ∙ ap (λ l. r.signs ++ l) i.1) in
      elim (type_of (suc n) k.0 c.0 k.2) [
        | named y z f ↦ bound_by o fs t us gs rest w.0 w.1 (sign.Word y z) r.signs i.0 e.0 e.1 (word_no_never y z) r.all (g ∙ ap (λ l. sign.Mark mark.Let ∷ sign.Word w.0 w.1 ∷ sign.Mark mark.Colon ∷ l) (f ∙ ap (λ l. sign.Word y z ∷ l) h)) q a
        | bool f ↦ bound_by o fs t us gs rest w.0 w.1 (sign.Mark mark.Bool) r.signs i.0 e.0 e.1 (mark_no_never mark.Bool (λ z. cc)) r.all (g ∙ ap (λ l. sign.Mark mark.Let ∷ sign.Word w.0 w.1 ∷ sign.Mark mark.Colon ∷ l) (f ∙ ap (λ l. sign.Mark mark.Bool ∷ l) h)) q a
      ]

  -- event e(M, ..); P
  pub back_recording : (o : Token) (fs : List Opened) (us : List Token) (gs rest : List Sign) → spelled.Is (suc n) row.recording gs rest → Tell (writes (at mode.Output o fs) us) gs → Back (Output o) us gs rest
  unfolding writes
  back_recording o fs [] gs rest x a = absurd (signed [] (is_behind (is_made (is_level x).1)).1 a)
  back_recording o fs (t ∷ us) gs rest x a =
      let b = is_behind (is_made (is_level x).1) in
      let c = is_both b.2 in
      let w = is_word c.1 in
      let m = is_both c.2 in
      let s = is_behind m.2 in
      let q = at_sort n sort.Output s.0 rest s.2 in
      let r = line_front (listed (deeper sort.Arguments)) refl m.1 in
      let ms = sign.Word w.0 w.1 ∷ r.signs in
      let g : b.0 ≡ ms ++ sign.Mark mark.Semicolon ∷ s.0 = w.2 ∙ ap (λ l. sign.Word w.0 w.1 ∷ l) (r.split ∙ ap (λ l. r.signs ++ l) s.1) in
      let e = at_event (begun o fs t us mark.EventWord b.0 refl (signed (writes (at mode.Output o fs) (t ∷ us)) b.1 a)) in
      let l = passed (at mode.Line o fs) (at mode.Output o fs) (codes ";") mark.Semicolon line_mark (lines_run o fs) ms us s.0 (refl, r.all) (signed (writes (at mode.Line o fs) us) g (tells (output_records o fs t us e).written b.1 a).1) in
      let d = low.output o fs l.more s.0 rest q l.tell in
      from_source (ap (λ z. t ∷ z) l.split) (record {
        file = t ∷ l.run ++ l.last ∷ d.file;
        oracles = d.oracles;
        more = d.more;
        stands = recording l.run l.last l.more d.file d.oracles d.more e l.up l.is d.stands;
        signs = sign.Mark mark.EventWord ∷ (ms ++ sign.Mark mark.Semicolon ∷ d.signs);
        split = b.1 ∙ ap (λ z. sign.Mark mark.EventWord ∷ z) (g ∙ ap (λ z. ms ++ sign.Mark mark.Semicolon ∷ z) d.split ∙ sym (append_assoc ms (sign.Mark mark.Semicolon ∷ d.signs) rest));
        long = ap suc (long_both ms (sign.Mark mark.Semicolon ∷ d.signs) l.run (l.last ∷ d.file) (sym l.long) (ap suc d.long));
      })
