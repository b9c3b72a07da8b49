-- The translation by numbers of tokens is the one over the tokens themselves.
use Rattle.std.proofs.Common.{◌≡◌, ℕ, ◌+◌, Bool, true, false, if◌then◌else◌, ◌&&◌, List, [], ◌∷◌, ◌++◌, length, map, codes, refl, ap, sym, ◌∙◌, Option, Some, None}
use Rattle.std.specs.Prelude.{not}
use Rattle.std.specs.List.{AllByRecursion}
use Rattle.std.specs.Str.{bytes_eq}
use Rattle.std.proofs.lemmas.List.{append_assoc, append-nil, map-append, map_push, length_push}
use Rattle.std.proofs.Math.ListN.{get_or-map}
use Rattle.std.proofs.Math.Seq.{get_or-append_seam}
use Rattle.cv_lex.specs.declared.TokenKind.{TokenKind}
use Rattle.cv_lex.specs.Lexis.{Token, end_token}
use Rattle.cv_lex.specs.View.{token_at}
use Rattle.cv_library.specs.Libraries.{is_among}
use Rattle.cv_parse_tables.specs.terminals.Braces.{is_end}
use Rattle.cv_parse_tables.specs.terminals.Signs.{first_text}
use Rattle.cv_oracles.specs.declared.form.Mode.{Mode}
use Rattle.cv_oracles.specs.declared.form.Mode.TheVariants as mode
use Rattle.cv_oracles.specs.declared.frames.Frame.{Frame}
use Rattle.cv_oracles.specs.declared.frames.Opening.{Opening}
use Rattle.cv_oracles.specs.declared.frames.Opening.TheVariants.{Parenthesis}
use Rattle.cv_oracles.specs.declared.frames.Sought.{Sought}
use Rattle.cv_oracles.specs.declared.frames.Sought.TheVariants as sought
use Rattle.cv_oracles.specs.declared.reading.Reading.{Reading}
use Rattle.cv_oracles.specs.declared.words.Piece.{Piece}
use Rattle.cv_oracles.specs.declared.words.Piece.TheVariants.{Own, Oracle, The}
use Rattle.cv_oracles.specs.declared.words.Word.TheVariants.{Never}
use Rattle.cv_oracles.specs.Frames.{from_first, behind_first, innermost, is_sought}
use Rattle.cv_oracles.specs.Pieces.{copy_for, piece_for, pieces, word_for}
use Rattle.cv_oracles.specs.Readings.{behind, closed, defines as defines_there, entered, frame, is_input, noted_in, opened_by, opening_of, with_frames}
use Rattle.cv_oracles.specs.Regions.{is_name}
use Rattle.cv_oracles.specs.Steps.{step}
use Rattle.cv_oracles.specs.Translations.{behind_at, oracles_from, text_at, written_at, written_from}
use Rattle.cv_oracle_laws.specs.Tokens.{plain}
use Rattle.cv_oracle_laws.specs.OracleFiles.{new_among}
use Rattle.cv_oracle_laws.proofs.Runs.{Opened, State, at, open_as, is_one, from_one, behind_one, oracle_of, enters, opens_by, closes, notes, piece_of, move, move_at, writes, defines}

-- a token as it is copied
abbrev pub seen : Token → Token
seen t = if is_end t.kind then word_for Never 0 else plain t

plain_if : (b : Bool) (x y : Token) → plain (if b then x else y) ≡ (if b then plain x else plain y)
plain_if true x y = refl
plain_if false x y = refl

pub plain_copy : (ts : List Token) (j k : ℕ) → plain (copy_for ts j k) ≡ seen (token_at ts j)
plain_copy ts j k = plain_if (is_end (token_at ts j).kind) (word_for Never k) (record { kind = (token_at ts j).kind; text = (token_at ts j).text; offset = k })

module _ (ts : List Token) where
  abbrev pub named_at : ℕ → Token
  named_at k = seen (token_at ts k)

  abbrev pub opened_in : Frame → Opened
  opened_in f = open_as f.opening (named_at f.oracle)

  abbrev pub view : Reading → State
  view r = at r.mode (named_at r.oracle) (map opened_in r.frames)

  plain_piece : (oracle k : ℕ) (p : Piece) → plain (piece_for ts oracle k p) ≡ piece_of (named_at oracle) (named_at k) p
  plain_piece oracle k Own = plain_copy ts k k
  plain_piece oracle k Oracle = plain_copy ts oracle k
  plain_piece oracle k (The w) = refl

  plain_pieces : (oracle k : ℕ) (ps : List Piece) → map plain (map (piece_for ts oracle k) ps) ≡ map (piece_of (named_at oracle) (named_at k)) ps
  plain_pieces oracle k [] = refl
  plain_pieces oracle k (p ∷ ps) = λ i. plain_piece oracle k p i ∷ plain_pieces oracle k ps i

  -- what is open

  from_if : (b : Bool) (f : Frame) (fs : List Frame) (gs : List Opened) (is : Sought) → map opened_in (from_first (is_sought is) fs) ≡ gs → map opened_in (if b then f ∷ fs else from_first (is_sought is) fs) ≡ (if b then map opened_in (f ∷ fs) else gs)
  from_if true f fs gs is e = refl
  from_if false f fs gs is e = e

  from_is : (is : Sought) (fs : List Frame) → map opened_in (from_first (is_sought is) fs) ≡ from_one (is_one is) (map opened_in fs)
  from_is is [] = refl
  from_is is (f ∷ fs) = from_if (is_sought is f) f fs (from_one (is_one is) (map opened_in fs)) is (from_is is fs)

  behind_is : (fs : List Frame) → map opened_in (behind_first fs) ≡ behind_one (map opened_in fs)
  behind_is [] = refl
  behind_is (f ∷ fs) = refl

  innermost_is : (fs : List Frame) (other : ℕ) → named_at (innermost fs other) ≡ oracle_of (map opened_in fs) (named_at other)
  innermost_is [] other = refl
  innermost_is (f ∷ fs) other = refl

  view_if : (b : Bool) (r q : Reading) (s : State) → view q ≡ s → view (if b then r else q) ≡ (if b then view r else s)
  view_if true r q s e = refl
  view_if false r q s e = e

  entered_is : (r : Reading) (kind : TokenKind) (text : List ℕ) (k : ℕ) → view (entered r kind text k) ≡ enters (view r) kind text (named_at k)
  entered_is r kind text k =
      view_if (bytes_eq text (codes "(")) (with_frames r r.oracle (frame Parenthesis r.oracle ∷ r.frames)) (if is_name kind text then with_frames r k r.frames else r) (if is_name kind text then view (with_frames r k r.frames) else view r)
      (view_if (is_name kind text) (with_frames r k r.frames) r (view r) refl)

  opened_is : (r : Reading) (p : Option Opening) → view (opened_by r p) ≡ opens_by (view r) p
  opened_is r None = refl
  opened_is r (Some p) = refl

  closed_is : (r : Reading) (text : List ℕ) → view (closed r text) ≡ closes (view r) text
  closed_is r text =
      let tests = from_first (is_sought sought.Test) r.frames in
      let finds = from_first (is_sought sought.Find) r.frames in
      let parens = from_first (is_sought sought.Parenthesis) r.frames in
      let a = with_frames r r.oracle (behind_first parens) in
      let b = with_frames r (innermost tests r.oracle) (behind_first tests) in
      let c = with_frames r (innermost finds r.oracle) finds in
      let by_finds : view (if bytes_eq text (codes "orfind") then c else r) ≡ (if bytes_eq text (codes "orfind") then view c else view r) = view_if (bytes_eq text (codes "orfind")) c r (view r) refl in
      view_if (bytes_eq text (codes ")")) a (if bytes_eq text (codes "else") then b else (if bytes_eq text (codes "orfind") then c else r)) _
      (view_if (bytes_eq text (codes "else")) b (if bytes_eq text (codes "orfind") then c else r) _ by_finds)
      ∙ (λ i.
      if bytes_eq text (codes ")") then at r.mode (named_at r.oracle) ((behind_is parens ∙ ap behind_one (from_is sought.Parenthesis r.frames)) i)
      else (if bytes_eq text (codes "else") then at r.mode ((innermost_is tests r.oracle ∙ ap (λ l. oracle_of l (named_at r.oracle)) (from_is sought.Test r.frames)) i) ((behind_is tests ∙ ap behind_one (from_is sought.Test r.frames)) i)
      else (if bytes_eq text (codes "orfind") then at r.mode ((innermost_is finds r.oracle ∙ ap (λ l. oracle_of l (named_at r.oracle)) (from_is sought.Find r.frames)) i) (from_is sought.Find r.frames i)
      else view r)))

  noted_is : (m : Mode) (r : Reading) (kind : TokenKind) (text : List ℕ) (k : ℕ) → view (noted_in m r kind text k) ≡ notes m (view r) kind text (named_at k)
  noted_is mode.Input r kind text k = entered_is r kind text k
  noted_is mode.Output r kind text k = opened_is r (opening_of text)
  noted_is mode.Behind r kind text k = closed_is r text
  noted_is m r kind text k = refl

  after_is : (r : Reading) (kind : TokenKind) (text next : List ℕ) (k : ℕ) → view (behind r kind text next k) ≡ (move (view r) (named_at k) kind text next).after
  after_is r kind text next k = ap (λ s. at (step r.mode kind text next).1 s.oracle s.frames) (noted_is r.mode r kind text k)

-- The tokens of a list without their places, where some stand before the others and an end behind them.

abbrev pub NotEnds : List Token → Type 0
NotEnds us = AllByRecursion (λ t. is_end t.kind ≡ false) us

module _ (ts : List Token) where
  pub plain_at : (pre : List Token) (t : Token) (rest : List Token) → map plain ts ≡ pre ++ t ∷ rest → plain (token_at ts (length pre)) ≡ t
  plain_at pre t rest e = sym (get_or-map plain ts (length pre) (end_token 0)) ∙ ap (λ l. token_at l (length pre)) e ∙ get_or-append_seam pre t rest (end_token 0)

  pub pushed : (pre : List Token) (t : Token) (rest : List Token) → map plain ts ≡ pre ++ t ∷ rest → map plain ts ≡ (pre ++ t ∷ []) ++ rest
  pushed pre t rest e = e ∙ sym (append_assoc pre (t ∷ []) rest)

  -- one token further
  next_at : (pre : List Token) (t : Token) (us : List Token) → map plain ts ≡ pre ++ t ∷ (us ++ end_token 0 ∷ []) → (token_at ts (length pre + 1)).text ≡ first_text us
  next_at pre t [] e = ap (λ n. (token_at ts n).text) (sym (length_push pre t)) ∙ ap (λ x. x.text) (plain_at (pre ++ t ∷ []) (end_token 0) [] (pushed pre t (end_token 0 ∷ []) e))
  next_at pre t (u ∷ us) e = ap (λ n. (token_at ts n).text) (sym (length_push pre t)) ∙ ap (λ x. x.text) (plain_at (pre ++ t ∷ []) u (us ++ end_token 0 ∷ []) (pushed pre t (u ∷ us ++ end_token 0 ∷ []) e))

  seen_as : (x : Token) → is_end x.kind ≡ false → seen x ≡ plain x
  seen_as x e = ap (λ b. if b then word_for Never 0 else plain x) e

  pub named_is : (pre : List Token) (t : Token) (rest : List Token) → map plain ts ≡ pre ++ t ∷ rest → is_end t.kind ≡ false → named_at ts (length pre) ≡ t
  named_is pre t rest e n = let x = plain_at pre t rest e in seen_as (token_at ts (length pre)) (ap (λ y. is_end y.kind) x ∙ n) ∙ x

  -- the move at a token
  moved_at : (pre : List Token) (t : Token) (us : List Token) → map plain ts ≡ pre ++ t ∷ (us ++ end_token 0 ∷ []) → is_end t.kind ≡ false → (r : Reading) →
      move (view ts r) (named_at ts (length pre)) (token_at ts (length pre)).kind (token_at ts (length pre)).text (token_at ts (length pre + 1)).text ≡ move_at (view ts r) t us
  moved_at pre t us e n r =
      let x = plain_at pre t (us ++ end_token 0 ∷ []) e in
      let y = next_at pre t us e in
      let z = named_is pre t (us ++ end_token 0 ∷ []) e n in
      λ i. move (view ts r) (z i) (x i).kind (x i).text (y i)

  pub written_is : (pre us : List Token) → map plain ts ≡ pre ++ (us ++ end_token 0 ∷ []) → NotEnds us → (r : Reading) → map plain (written_from ts r (length pre) (length us)) ≡ writes (view ts r) us
  unfolding written_from writes
  written_is pre [] e n r = refl
  written_is pre (t ∷ us) e (n, ns) r =
      let k = length pre in
      let m = moved_at pre t us e n r in
      map-append plain (written_at ts r k) (written_from ts (behind_at ts r k) (k + 1) (length us))
      ∙ (λ i. (plain_pieces ts r.oracle k (pieces (step r.mode (token_at ts k).kind (token_at ts k).text (token_at ts (k + 1)).text).0) ∙ ap (λ x. x.written) m) i
      ++ (ap (λ l. map plain (written_from ts (behind_at ts r k) l (length us))) (sym (length_push pre t))
      ∙ written_is (pre ++ t ∷ []) us (pushed pre t (us ++ end_token 0 ∷ []) e) ns (behind_at ts r k)
      ∙ ap (λ s. writes s us) (after_is ts r (token_at ts k).kind (token_at ts k).text (token_at ts (k + 1)).text k ∙ ap (λ x. x.after) m)) i)

  -- oracles

  module _ (k : ℕ) (t : Token) (us : List Token) (named : named_at ts k ≡ t) (text : text_at ts k ≡ t.text) where
    abbrev Found : (before : List ℕ) (d a : Bool) → Type 0
    Found before d a =
        (rest : List ℕ → List Token) → (others : List Token) → ((b : List ℕ) → rest b ≡ map (named_at ts) b ++ new_among (map (text_at ts) b) others) →
        rest (if d && not a then before ++ k ∷ [] else before) ≡ map (named_at ts) before ++ new_among (map (text_at ts) before) ((if d then t ∷ [] else []) ++ others)

    found_one : (before : List ℕ) (d a : Bool) → is_among (map (text_at ts) before) (text_at ts k) ≡ a → Found before d a
    found_one before false a e rest others h = h before
    found_one before true true e rest others h =
        h before
        ∙ ap (λ l. map (named_at ts) before ++ l) (sym (
        λ i. if (ap (is_among (map (text_at ts) before)) (sym text) ∙ e) i then new_among (map (text_at ts) before) others else t ∷ new_among (map (text_at ts) before ++ t.text ∷ []) others
        ))
    found_one before true false e rest others h =
        h (before ++ k ∷ [])
        ∙ (λ i. map_push (named_at ts) before k i ++ new_among (map_push (text_at ts) before k i) others)
        ∙ append_assoc (map (named_at ts) before) (named_at ts k ∷ []) (new_among (map (text_at ts) before ++ text_at ts k ∷ []) others)
        ∙ (λ i. map (named_at ts) before ++ named i ∷ new_among (map (text_at ts) before ++ text i ∷ []) others)
        ∙ ap (λ l. map (named_at ts) before ++ l) (sym (
        λ i. if (ap (is_among (map (text_at ts) before)) (sym text) ∙ e) i then new_among (map (text_at ts) before) others else t ∷ new_among (map (text_at ts) before ++ t.text ∷ []) others
        ))

  pub oracles_is : (pre us : List Token) → map plain ts ≡ pre ++ (us ++ end_token 0 ∷ []) → NotEnds us → (r : Reading) (before : List ℕ) →
      map (named_at ts) (oracles_from ts r (length pre) (length us) before) ≡ map (named_at ts) before ++ new_among (map (text_at ts) before) (defines (view ts r) us)
  unfolding oracles_from defines
  oracles_is pre [] e n r before = sym (append-nil (map (named_at ts) before))
  oracles_is pre (t ∷ us) e (n, ns) r before =
      let k = length pre in
      let x = plain_at pre t (us ++ end_token 0 ∷ []) e in
      let m = moved_at pre t us e n r in
      let further : (b : List ℕ) → map (named_at ts) (oracles_from ts (behind_at ts r k) (k + 1) (length us) b) ≡ map (named_at ts) b ++ new_among (map (text_at ts) b) (defines (move_at (view ts r) t us).after us) =
      λ b. ap (λ l. map (named_at ts) (oracles_from ts (behind_at ts r k) l (length us) b)) (sym (length_push pre t))
      ∙ oracles_is (pre ++ t ∷ []) us (pushed pre t (us ++ end_token 0 ∷ []) e) ns (behind_at ts r k) b
      ∙ ap (λ s. map (named_at ts) b ++ new_among (map (text_at ts) b) (defines s us)) (after_is ts r (token_at ts k).kind (token_at ts k).text (token_at ts (k + 1)).text k ∙ ap (λ y. y.after) m) in
      found_one k t us (named_is pre t (us ++ end_token 0 ∷ []) e n) (ap (λ y. y.text) x) before (defines_there r (token_at ts k).kind (text_at ts k)) (is_among (map (text_at ts) before) (text_at ts k)) refl
      (λ b. map (named_at ts) (oracles_from ts (behind_at ts r k) (k + 1) (length us) b)) (defines (move_at (view ts r) t us).after us) further
      ∙ (λ i. map (named_at ts) before ++ new_among (map (text_at ts) before) ((if is_input r.mode && is_name (x i).kind (x i).text then t ∷ [] else []) ++ defines (move_at (view ts r) t us).after us))
