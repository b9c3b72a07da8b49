-- Where the translation is a phrase of the file, the source is the phrase of the oracle file that stands for it.
use Rattle.std.proofs.Common.{◌≡◌, ℕ, suc, ◌<◌, true, inl, inr, List, [], ◌∷◌, ◌++◌, length, codes, refl, ap, sym, ◌∙◌, subst, arith, Some, None}
use Rattle.std.specs.Str.{bytes_eq}
use Rattle.std.proofs.lemmas.List.{append_assoc, length-append}
use Rattle.cv_lex.specs.Lexis.{Token}
use Rattle.cv_lex.specs.declared.TokenKind.TheVariants as kind
use Rattle.cv_parse_notation.specs.declared.sign.Mark.TheVariants as mark
use Rattle.cv_parse_notation.specs.declared.sign.Sign.{Sign}
use Rattle.cv_parse_notation.specs.declared.sign.Sign.TheVariants as sign
use Rattle.cv_parse_notation.specs.Form.{deeper}
use Rattle.cv_parse_tables.proofs.spelling.Table.{found}
use Rattle.cv_parse_tables.specs.spelling.Spelling.{mark_of_text}
use Rattle.cv_parse_grammar.specs.depth.Files.{most_levels}
use Rattle.cv_parse_grammar.specs.Phrases.{Phrase}
use Rattle.cv_parse_grammar.specs.Phrases as sort
use Rattle.cv_parse_grammar.specs.Processes as row
use Rattle.cv_oracles.specs.declared.form.Mode.TheVariants as mode
use Rattle.cv_oracles.specs.declared.frames.Opening.TheVariants.{Parenthesis}
use Rattle.cv_oracles.specs.Regions.{is_name}
use Rattle.cv_oracle_laws.specs.Tokens.{word, symbol, Is, AreUpTo}
use Rattle.cv_oracle_laws.specs.Grammar.{Sort, Inputs, Input, Output, Continuation, Otherwise, Stands, nought, bracketed, foreach, definition, ending, parentheses, stopping, continuing, nothing, otherwise}
use Rattle.cv_oracle_laws.proofs.Runs.{Opened, State, at, open_as, writes, Goes}
use Rattle.cv_oracle_laws.proofs.Moves.{at_text, moves, input_opens, input_repeats, input_defines, output_opens}
use Rattle.cv_oracle_laws.proofs.Forward.{IsOpen, others, from}
use Rattle.cv_oracle_laws.proofs.Phrases.{forward}
use Rattle.cv_oracle_laws.proofs.Spelled as spelled
use Rattle.cv_oracle_laws.proofs.Spelled.{IsOne, at_sort, by_row, is_before, is_behind, is_both, is_either, is_level, is_made, is_may, is_sign, is_word}
use Rattle.cv_oracle_laws.proofs.Terms.{variable_mark}
use Rattle.cv_oracle_laws.proofs.Telling.{tells, Fit, Tell, passed, variables_run}
use Rattle.cv_oracle_laws.proofs.Sources.{becomes_alone, behind_mark, below_kept, bound_kept, does_alone, head_alone, index_kept, mark_no_never, word_no_never}
use Rattle.cv_oracle_laws.proofs.Views.{at_open, at_yield, begun, entered, in_bang, in_in, in_open, lack_else}
use Rattle.cv_oracle_laws.proofs.Shapes.{Pattern, indexing, listing, pattern_of, single}
use Rattle.cv_oracle_laws.proofs.Payloads.{zero_there}

pub record Back (σ : Sort) (us : List Token) (gs rest : List Sign) : Type 0 where
  pub file : List Token
  pub oracles : List Token
  pub more : List Token
  pub stands : Stands σ us file oracles more
  pub signs : List Sign
  pub split : gs ≡ signs ++ rest
  pub long : length signs ≡ length file

-- what is written for the name of an oracle, behind `in`
abbrev heading : Token → List Opened → List Token → List Token
heading t fs us = symbol (codes "(") ∷ t ∷ symbol (codes ",") ∷ writes (at mode.Head t fs) us

-- as many signs as tokens
after : (ws more : List Token) (ms rest : List Sign) → length ms ≡ length ws → Tell (ws ++ more) (ms ++ rest) → Tell more rest
after [] more [] rest e a = a
after (w ∷ ws) more (m ∷ ms) rest e a = after ws more ms rest (omega arith) a.1
after [] more (m ∷ ms) rest e a = absurd (omega arith)
after (w ∷ ws) more [] rest e a = absurd (omega arith)

pub long_both : (ms ns : List Sign) (ws vs : List Token) → length ms ≡ length ws → length ns ≡ length vs → length (ms ++ ns) ≡ length (ws ++ vs)
long_both ms ns ws vs a b = let x = length-append ms ns in let y = length-append ws vs in omega arith

-- what is left behind a phrase
pub left_behind : {s r : State} {us ws os more : List Token} {gs : List Sign} (rest : List Sign) → Goes s us ws os r more → (ms : List Sign) → gs ≡ ms ++ rest → length ms ≡ length ws → Tell (writes s us) gs → Tell (writes r more) rest
left_behind {s} {r} {us} {ws} {os} {more} {gs} rest g ms e l a = after ws (writes r more) ms rest l (subst (λ x. Tell x (ms ++ rest)) g.written (subst (Tell (writes s us)) e a))

pub signed : (ws : List Token) {gs hs : List Sign} → gs ≡ hs → Tell ws gs → Tell ws hs
signed ws e a = subst (Tell ws) e a

pub from_source : {σ : Sort} {us vs : List Token} {gs rest : List Sign} → us ≡ vs → Back σ vs gs rest → Back σ us gs rest
from_source {σ} {gs = gs} {rest} e b = subst (λ l. Back σ l gs rest) (sym e) b

-- a branch of a `find`
pub record BackBranch (o : Token) (us : List Token) (gs rest : List Sign) : Type 0 where
  pub run : List Token
  pub mid : Token
  pub body : List Token
  pub split_source : us ≡ run ++ mid ∷ body
  pub up : AreUpTo (codes "then") run
  pub is : Is mid (codes "then")
  pub back : List Sign
  pub front : List Sign
  pub split_signs : gs ≡ front ++ sign.Mark mark.Then ∷ back
  pub long : length run ≡ length front
  pub output : Back (Output o) body back rest

-- what is said of the sorts one level down
pub record Below (n : ℕ) : Type 0 where
  pub few : n < most_levels
  pub inputs : (p : Token) (fs : List Opened) (us : List Token) (gs rest : List Sign) → IsOne n sort.Inputs gs rest → Tell (writes (at mode.Input p fs) us) gs → Back Inputs us gs rest
  pub input : (p : Token) (fs : List Opened) (us : List Token) (gs rest : List Sign) → IsOne n sort.Input gs rest → Tell (writes (at mode.Input p fs) us) gs → Back Input us gs rest
  pub output : (o : Token) (fs : List Opened) (us : List Token) (gs rest : List Sign) → IsOne n sort.Output gs rest → Tell (writes (at mode.Output o fs) us) gs → Back (Output o) us gs rest
  pub branch : (o : Token) (fs : List Opened) (us : List Token) (gs rest : List Sign) → IsOne n sort.ProcessBranch gs rest → Tell (writes (at mode.Test o fs) us) gs → BackBranch o us gs rest

-- the first sign of an input process, and of a term

input_first : {n : ℕ} {gs rest : List Sign} → spelled.Is n row.input gs rest → (s : Sign) × (hs : List Sign) × (gs ≡ s ∷ hs) × (Fit (symbol (codes ":=")) s → ⊥)
input_first x = elim (is_either x) [
  | inl a ↦ let b = is_made (is_level a).1 in (sign.Number 0, _, b.spelled.tokens, λ f. let z : kind.Symbol ≡ kind.Number 0 = f.0 in cc)
  | inr x ↦ elim (is_either x) [
    | inl a ↦ let b = is_behind (is_level a).1 in (sign.Mark mark.Open, _, b.1, mark_no_never mark.Open (λ z. cc))
    | inr x ↦ elim (is_either x) [
      | inl a ↦ let b = is_behind (is_made (is_level a).1) in (sign.Mark mark.Bang, _, b.1, mark_no_never mark.Bang (λ z. cc))
      | inr a ↦ let b = is_behind (is_made (is_level a).1) in (sign.Mark mark.In, _, b.1, mark_no_never mark.In (λ z. cc))
    ]
  ]
]

module _ (n : ℕ) (low : Below n) where
  -- (Q)
  pub back_bracketed : (p : Token) (fs : List Opened) (us : List Token) (gs rest : List Sign) → spelled.Is (suc n) (sort.bracket (deeper sort.Inputs)) gs rest → Tell (writes (at mode.Input p fs) us) gs → Back Input us gs rest
  unfolding writes
  back_bracketed p fs [] gs rest x a =
      let b = is_behind (is_level x).1 in
      absurd (subst (Tell []) b.1 a)
  back_bracketed p fs (t ∷ us) gs rest x a =
      let b = is_behind (is_level x).1 in
      let c = at_sort n sort.Inputs b.0 (sign.Mark mark.Close ∷ rest) (is_before b.2) in
      let e = in_open (entered p fs t us mark.Open b.0 refl (subst (Tell (writes (at mode.Input p fs) (t ∷ us))) b.1 a)) in
      let i = input_opens p fs t us e in
      let d = low.inputs p (open_as Parenthesis p ∷ fs) us b.0 (sign.Mark mark.Close ∷ rest) c (tells i.written b.1 a).1 in
      let l = forward d.stands p (open_as Parenthesis p ∷ fs) in
      let z = left_behind (sign.Mark mark.Close ∷ rest) l.goes d.signs d.split d.long (tells i.written b.1 a).1 in
      closing p fs t us gs rest e b.0 b.1 d l.oracle (l.more ++ open_as Parenthesis p ∷ fs) d.more refl z
    where
      closing : (p : Token) (fs : List Opened) (t : Token) (us : List Token) (gs rest : List Sign) → Is t (codes "(") → (mid : List Sign) → gs ≡ sign.Mark mark.Open ∷ mid → (d : Back Inputs us mid (sign.Mark mark.Close ∷ rest)) → (q : Token) (hs : List Opened) (more : List Token) → d.more ≡ more →
          Tell (writes (at mode.Behind q hs) more) (sign.Mark mark.Close ∷ rest) → Back Input (t ∷ us) gs rest
      closing p fs t us gs rest e mid f d q hs [] g z = absurd z
      closing p fs t us gs rest e mid f d q hs (c ∷ more) g z = record {
        file = t ∷ d.file ++ c ∷ [];
        oracles = d.oracles;
        more = more;
        stands = bracketed e (subst (Stands Inputs us d.file d.oracles) g d.stands) (behind_mark q hs mark.Close refl (λ k. cc) c more rest z);
        signs = sign.Mark mark.Open ∷ d.signs ++ sign.Mark mark.Close ∷ [];
        split = f ∙ ap (λ l. sign.Mark mark.Open ∷ l) (d.split ∙ sym (append_assoc d.signs (sign.Mark mark.Close ∷ []) rest));
        long = ap suc (long_both d.signs (sign.Mark mark.Close ∷ []) d.file (c ∷ []) d.long refl);
      }

  -- 0
  pub back_nought : (p : Token) (fs : List Opened) (us : List Token) (gs rest : List Sign) → spelled.Is (suc n) row.ending gs rest → Tell (writes (at mode.Input p fs) us) gs → Back Input us gs rest
  unfolding writes
  back_nought p fs [] gs rest x a = absurd (subst (Tell []) (is_made (is_level x).1).spelled.tokens a)
  back_nought p fs (t ∷ us) gs rest x a =
      let e = (is_made (is_level x).1).spelled.tokens in
      let k = zero_there p fs t us 0 rest (subst (Tell (writes (at mode.Input p fs) (t ∷ us))) e a) in
      record { file = t ∷ []; oracles = []; more = us; stands = nought k.0 k.1; signs = sign.Number 0 ∷ []; split = e; long = refl }

  -- foreach i <= N do Q
  pub back_foreach : (p : Token) (fs : List Opened) (us : List Token) (gs rest : List Sign) → spelled.Is (suc n) row.replication gs rest → Tell (writes (at mode.Input p fs) us) gs → Back Input us gs rest
  unfolding writes
  back_foreach p fs [] gs rest x a = absurd (subst (Tell []) (is_behind (is_made (is_level x).1)).1 a)
  back_foreach p fs (t ∷ us) gs rest x a =
      let b = is_behind (is_made (is_level x).1) in
      let c = is_both b.2 in
      let i = is_word c.1 in
      let d = is_behind c.2 in
      let f = is_both d.2 in
      let m = is_word f.1 in
      let q = at_sort n sort.Input f.0 rest f.2 in
      let s = input_first (by_row n sort.Input f.0 rest q) in
      let e = in_bang (entered p fs t us mark.Bang b.0 refl (subst (Tell (writes (at mode.Input p fs) (t ∷ us))) b.1 a)) in
      let g : b.0 ≡ sign.Word i.0 i.1 ∷ sign.Mark mark.AtMost ∷ sign.Word m.0 m.1 ∷ f.0 = i.2 ∙ ap (λ l. sign.Word i.0 i.1 ∷ l) (d.1 ∙ ap (λ l. sign.Mark mark.AtMost ∷ l) m.2) in
      let k = index_kept p fs us (sign.Word i.0 i.1) (sign.Mark mark.AtMost ∷ sign.Word m.0 m.1 ∷ f.0) (word_no_never i.0 i.1) (subst (Tell (writes (at mode.Index p fs) us)) g (tells (input_repeats p fs t us e).written b.1 a).1) in
      let l = below_kept p fs k.more (sign.Mark mark.AtMost) (sign.Word m.0 m.1 ∷ f.0) (mark_no_never mark.AtMost (λ z. cc)) k.tell in
      let o = bound_kept p fs l.more (sign.Word m.0 m.1) f.0 (word_no_never m.0 m.1) l.tell in
      let r = does_alone p fs o.more s.0 s.1 s.3 (subst (Tell (writes (at mode.Do p fs) o.more)) s.2 o.tell) in
      let d = low.input p fs r.more f.0 rest q (subst (Tell (writes (at mode.Input p fs) r.more)) (sym s.2) r.tell) in
      from_source (ap (λ z. t ∷ z) (k.split ∙ ap (λ z. k.first ∷ z) (l.split ∙ ap (λ z. l.first ∷ z) (o.split ∙ ap (λ z. o.first ∷ z) r.split)))) (record {
        file = symbol (codes "!") ∷ k.first ∷ l.first ∷ o.first ∷ d.file;
        oracles = d.oracles;
        more = d.more;
        stands = foreach e k.kept l.kept o.kept r.is d.stands;
        signs = sign.Mark mark.Bang ∷ sign.Word i.0 i.1 ∷ sign.Mark mark.AtMost ∷ sign.Word m.0 m.1 ∷ d.signs;
        split = b.1 ∙ ap (λ z. sign.Mark mark.Bang ∷ z) (g ∙ ap (λ z. sign.Word i.0 i.1 ∷ sign.Mark mark.AtMost ∷ sign.Word m.0 m.1 ∷ z) d.split);
        long = ap (λ z. suc (suc (suc (suc z)))) d.long;
      })

  -- O(x: T, ..) := P
  pub back_definition : (p : Token) (fs : List Opened) (us : List Token) (gs rest : List Sign) → spelled.Is (suc n) row.receiving gs rest → Tell (writes (at mode.Input p fs) us) gs → Back Input us gs rest
  unfolding writes
  back_definition p fs [] gs rest x a = absurd (subst (Tell []) (is_behind (is_made (is_level x).1)).1 a)
  back_definition p fs (t ∷ us) gs rest x a =
      let b = is_behind (is_made (is_level x).1) in
      let c = is_both b.2 in
      let s = is_behind c.2 in
      let e = in_in (entered p fs t us mark.In b.0 refl (signed (writes (at mode.Input p fs) (t ∷ us)) b.1 a)) in
      let first : Tell (heading t fs us) b.0 = (tells (input_defines p fs t us e).written b.1 a).1 in
      with_pattern p fs t us gs b.0 c.0 s.0 rest e b.1 s.1 (at_sort n sort.Output s.0 rest s.2) first (pattern_of n b.0 c.0 (by_row n sort.Pattern b.0 c.0 (at_sort n sort.Pattern b.0 c.0 c.1))) low
    where
      with_pattern : (p : Token) (fs : List Opened) (t : Token) (us : List Token) (gs inner mid body rest : List Sign) → is_name t.kind t.text ≡ true → gs ≡ sign.Mark mark.In ∷ inner → mid ≡ sign.Mark mark.Semicolon ∷ body → IsOne n sort.Output body rest →
          Tell (heading t fs us) inner → Pattern inner mid → Below n → Back Input (t ∷ us) gs rest
      with_pattern p fs t us gs inner mid body rest e f g q a (indexing x w hs h) low =
          let z : Some mark.Comma ≡ Some mark.OpenSquare = sym (found mark.Comma) ∙ (signed (heading t fs us) h a).1.1.0.0 in absurd (cc)
      with_pattern p fs t us gs inner mid body rest e f g q a (single x w y v hs h) low =
          let k = head_alone t fs us (sign.Word y v) hs (word_no_never y v) (signed (heading t fs us) h a).1.1.1 in
          let z : None ≡ Some mark.Open = sym k.tell.0.0 ∙ ap mark_of_text k.is ∙ found mark.Open in absurd (cc)
      with_pattern p fs t us gs inner mid body rest e f g q a (listing x w vs all h) low =
          let k = head_alone t fs us (sign.Mark mark.Open) (vs ++ sign.Mark mark.Close ∷ sign.Mark mark.Close ∷ mid) (mark_no_never mark.Open (λ z. cc)) (signed (heading t fs us) h a).1.1.1 in
          let v = passed (at mode.Variables t fs) (at mode.Defines t fs) (codes ")") mark.Close variable_mark (variables_run t fs) vs k.more (sign.Mark mark.Close ∷ mid) all k.tell.1 in
          let r = becomes_alone t fs v.more (sign.Mark mark.Close) mid (mark_no_never mark.Close (λ z. cc)) v.tell in
          let d = low.output t fs r.more body rest q (signed (symbol (codes ";") ∷ writes (at mode.Output t fs) r.more) g r.tell.1).1 in
          from_source (ap (λ z. t ∷ z) (k.split ∙ ap (λ z. k.first ∷ z) (v.split ∙ ap (λ z. v.run ++ v.last ∷ z) r.split))) (record {
            file = word (codes "in") ∷ symbol (codes "(") ∷ t ∷ symbol (codes ",") ∷ k.first ∷ v.run ++ v.last ∷ symbol (codes ")") ∷ symbol (codes ";") ∷ d.file;
            oracles = t ∷ d.oracles;
            more = d.more;
            stands = definition v.run v.last r.first r.more d.file d.oracles d.more e k.is v.up v.is r.is d.stands;
            signs = sign.Mark mark.In ∷ sign.Mark mark.Open ∷ sign.Word x w ∷ sign.Mark mark.Comma ∷ sign.Mark mark.Open ∷ (vs ++ sign.Mark mark.Close ∷ sign.Mark mark.Close ∷ sign.Mark mark.Semicolon ∷ d.signs);
            split =
                f ∙ ap (λ l. sign.Mark mark.In ∷ l) (h ∙ ap (λ l. sign.Mark mark.Open ∷ sign.Word x w ∷ sign.Mark mark.Comma ∷ sign.Mark mark.Open ∷ l) (
                ap (λ l. vs ++ sign.Mark mark.Close ∷ sign.Mark mark.Close ∷ l) (g ∙ ap (λ l. sign.Mark mark.Semicolon ∷ l) d.split)
                ∙ sym (append_assoc vs (sign.Mark mark.Close ∷ sign.Mark mark.Close ∷ sign.Mark mark.Semicolon ∷ d.signs) rest)
                ));
            long = ap (λ z. suc (suc (suc (suc (suc z))))) (
                long_both vs (sign.Mark mark.Close ∷ sign.Mark mark.Close ∷ sign.Mark mark.Semicolon ∷ d.signs) v.run (v.last ∷ symbol (codes ")") ∷ symbol (codes ";") ∷ d.file) (sym v.long) (ap (λ z. suc (suc (suc z))) d.long)
                );
          })

  -- what may follow `return`
  pub back_continuation : (o p : Token) (fs : List Opened) (us : List Token) (gs rest : List Sign) → spelled.Is (suc n) row.continuation gs rest → Tell (writes (at mode.Behind p fs) us) gs → Back (Continuation o) us gs rest
  unfolding writes
  back_continuation o p fs us gs rest x a = elim (is_may (is_made x)) [
    | inl e ↦ record { file = []; oracles = []; more = us; stands = stopping; signs = []; split = e.0; long = refl }
    | inr y ↦ let b = is_behind y in going us b.0 b.1 (at_sort n sort.Input b.0 rest b.2) a low
  ]
    where
      going : (us : List Token) (mid : List Sign) → gs ≡ sign.Mark mark.Semicolon ∷ mid → IsOne n sort.Input mid rest → Tell (writes (at mode.Behind p fs) us) gs → Below n → Back (Continuation o) us gs rest
      going [] mid e q a low = absurd (signed [] e a)
      going (t ∷ us) mid e q a low =
          let is = behind_mark p fs mark.Semicolon refl (λ k. cc) t us mid (signed (writes (at mode.Behind p fs) (t ∷ us)) e a) in
          let d = low.input p fs us mid rest q (tells (at_text (at mode.Behind p fs) t us (codes ";") (moves (t ∷ []) [] (at mode.Input p fs)) is refl).written e a).1 in
          record { file = t ∷ d.file; oracles = d.oracles; more = d.more; stands = continuing is d.stands; signs = sign.Mark mark.Semicolon ∷ d.signs; split = e ∙ ap (λ l. sign.Mark mark.Semicolon ∷ l) d.split; long = ap suc d.long }

  -- an `else` or nothing
  pub back_otherwise : (o p : Token) (more : List Opened) (f : Opened) (fs : List Opened) (us : List Token) (gs rest : List Sign) → IsOpen o more f us → spelled.Is (suc n) row.otherwise gs rest →
      Tell (writes (at mode.Behind p (more ++ f ∷ fs)) us) gs → Back (Otherwise o) us gs rest
  unfolding writes
  back_otherwise o p more f fs us gs rest i x a = elim (is_may (is_made x)) [
    | inl e ↦ record { file = []; oracles = []; more = us; stands = nothing (lack_else p (more ++ f ∷ fs) us gs a (e.1 refl)); signs = []; split = e.0; long = refl }
    | inr y ↦ let b = is_behind y in going us b.0 b.1 (at_sort n sort.Output b.0 rest b.2) i a low
  ]
    where
      going : (us : List Token) (mid : List Sign) → gs ≡ sign.Mark mark.Else ∷ mid → IsOne n sort.Output mid rest → IsOpen o more f us → Tell (writes (at mode.Behind p (more ++ f ∷ fs)) us) gs → Below n → Back (Otherwise o) us gs rest
      going [] mid e q i a low = absurd (signed [] e a)
      going (t ∷ us) mid e q i a low =
          let is = behind_mark p (more ++ f ∷ fs) mark.Else refl (λ k. cc) t us mid (signed (writes (at mode.Behind p (more ++ f ∷ fs)) (t ∷ us)) e a) in
          let empty : more ≡ [] = i.left.no_else (ap (λ x. bytes_eq x (codes "else")) is) in
          let w = from {r = at mode.Output o fs} (ap (λ x. x ++ f ∷ fs) empty) (others o fs p f t us i.oracle i.test is) in
          let d = low.output o fs us mid rest q (tells w.written e a).1 in
          record { file = t ∷ d.file; oracles = d.oracles; more = d.more; stands = otherwise is d.stands; signs = sign.Mark mark.Else ∷ d.signs; split = e ∙ ap (λ l. sign.Mark mark.Else ∷ l) d.split; long = ap suc d.long }

  -- end
  pub back_ending : (o : Token) (fs : List Opened) (us : List Token) (gs rest : List Sign) → spelled.Is (suc n) row.yielding gs rest → Tell (writes (at mode.Output o fs) us) gs → Back (Output o) us gs rest
  unfolding writes
  back_ending o fs [] gs rest x a = absurd (signed [] (is_sign (is_made (is_level x).1)) a)
  back_ending o fs (t ∷ us) gs rest x a =
      let e = is_sign (is_made (is_level x).1) in
      let k = at_yield (begun o fs t us mark.Yield rest refl (signed (writes (at mode.Output o fs) (t ∷ us)) e a)) in
      record { file = word (codes "yield") ∷ []; oracles = []; more = us; stands = ending k; signs = sign.Mark mark.Yield ∷ []; split = e; long = refl }

  -- (P)
  pub back_parentheses : (o : Token) (fs : List Opened) (us : List Token) (gs rest : List Sign) → spelled.Is (suc n) (sort.bracket (deeper sort.Output)) gs rest → Tell (writes (at mode.Output o fs) us) gs → Back (Output o) us gs rest
  unfolding writes
  back_parentheses o fs [] gs rest x a = absurd (signed [] (is_behind (is_level x).1).1 a)
  back_parentheses o fs (t ∷ us) gs rest x a =
      let b = is_behind (is_level x).1 in
      let c = at_sort n sort.Output b.0 (sign.Mark mark.Close ∷ rest) (is_before b.2) in
      let e = at_open (begun o fs t us mark.Open b.0 refl (signed (writes (at mode.Output o fs) (t ∷ us)) b.1 a)) in
      let i = output_opens o fs t us e in
      let d = low.output o (open_as Parenthesis o ∷ fs) us b.0 (sign.Mark mark.Close ∷ rest) c (tells i.written b.1 a).1 in
      let l = forward d.stands (open_as Parenthesis o ∷ fs) in
      let z = left_behind (sign.Mark mark.Close ∷ rest) l.goes d.signs d.split d.long (tells i.written b.1 a).1 in
      closing e b.0 b.1 d l.oracle (l.more ++ open_as Parenthesis o ∷ fs) d.more refl z
    where
      closing : Is t (codes "(") → (mid : List Sign) → gs ≡ sign.Mark mark.Open ∷ mid → (d : Back (Output o) us mid (sign.Mark mark.Close ∷ rest)) → (q : Token) (hs : List Opened) (more : List Token) → d.more ≡ more →
          Tell (writes (at mode.Behind q hs) more) (sign.Mark mark.Close ∷ rest) → Back (Output o) (t ∷ us) gs rest
      closing e mid f d q hs [] g z = absurd z
      closing e mid f d q hs (c ∷ more) g z = record {
        file = t ∷ d.file ++ c ∷ [];
        oracles = d.oracles;
        more = more;
        stands = parentheses e (subst (Stands (Output o) us d.file d.oracles) g d.stands) (behind_mark q hs mark.Close refl (λ k. cc) c more rest z);
        signs = sign.Mark mark.Open ∷ d.signs ++ sign.Mark mark.Close ∷ [];
        split = f ∙ ap (λ l. sign.Mark mark.Open ∷ l) (d.split ∙ sym (append_assoc d.signs (sign.Mark mark.Close ∷ []) rest));
        long = ap suc (long_both d.signs (sign.Mark mark.Close ∷ []) d.file (c ∷ []) d.long refl);
      }
