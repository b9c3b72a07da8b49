-- The parts of an oracle file.
use Rattle.std.proofs.Common.{◌||◌, ◌≡◌, ℕ, suc, ◌+◌, ◌-◌, Bool, true, false, if◌then◌else◌, ◌&&◌, ◌==◌, ◌⊎◌, inl, inr, List, [], ◌∷◌, ◌++◌, length, map, codes, refl, ap, sym, ◌∙◌, subst, arith}
use Rattle.std.specs.Prelude.{All}
use Rattle.std.specs.List.{AllByRecursion}
use Rattle.std.specs.Str.{bytes_eq}
use Rattle.std.proofs.lemmas.Bool.{or_parts}
use Rattle.std.proofs.lemmas.Bool.Decides.{nat_tests}
use Rattle.std.proofs.lemmas.List.{append_assoc, length_push}
use Rattle.std.proofs.lemmas.List.Elements.{recursion_from_All}
use Rattle.cv_lex.specs.Lexis.{Token, IsToken}
use Rattle.cv_lex.specs.View.{token_at}
use Rattle.cv_lex.proofs.Pieces.{token_not_end}
use Rattle.cv_lex.specs.declared.TokenKind.{TokenKind}
use Rattle.cv_lex.specs.declared.TokenKind.TheVariants as kind
use Rattle.cv_parse_tables.specs.terminals.Braces.{is_end, open_behind}
use Rattle.cv_oracles.specs.declared.region.Region.{Region}
use Rattle.cv_oracles.specs.declared.region.Region.TheVariants.{Declarations, Block}
use Rattle.cv_oracles.specs.declared.words.Word.{Word}
use Rattle.cv_oracles.specs.declared.words.Word.TheVariants.{Channel, Comma, Never}
use Rattle.cv_oracles.specs.Pieces.{copy_for, word_for}
use Rattle.cv_oracles.specs.Regions.{is_barred}
use Rattle.cv_oracles.specs.Translations.{channels, declaration, declarations_end_from, ends_declarations, is_process, kept_at, kept_from, process_from}
use Rattle.cv_oracle_laws.specs.Tokens.{plain, word, symbol, Is, is_brace, AreBraced, none, another, pair}
use Rattle.cv_oracle_laws.specs.OracleFiles.{IsBlock, IsDeclaring, and_others, declared_as_channels, in_block}
use Rattle.cv_oracle_laws.proofs.Bridge.{NotEnds, named_at, named_is, plain_at, plain_copy, pushed}

-- no token before the end is one

pub not_end : (k : TokenKind) (text : List ℕ) → IsToken k text → is_end k ≡ false
not_end kind.End text h = absurd (token_not_end text h)
not_end kind.Ident text h = refl
not_end kind.Symbol text h = refl
not_end (kind.Number v) text h = refl

not_ends : (front : List Token) → AllByRecursion (λ t. IsToken t.kind t.text) front → NotEnds (map plain front)
not_ends [] h = tt
not_ends (t ∷ front) (e, h) = (not_end t.kind t.text e, not_ends front h)

pub tokens_not_ends : (front : List Token) → All (λ t. IsToken t.kind t.text) front → NotEnds (map plain front)
tokens_not_ends front h = not_ends front (recursion_from_All (λ t. IsToken t.kind t.text) front h)

pub front_not_ends : (ts us : List Token) → NotEnds (ts ++ us) → NotEnds ts
front_not_ends [] us h = tt
front_not_ends (t ∷ ts) us (e, h) = (e, front_not_ends ts us h)

pub back_not_ends : (ts us : List Token) → NotEnds (ts ++ us) → NotEnds us
back_not_ends [] us h = h
back_not_ends (t ∷ ts) us (e, h) = back_not_ends ts us h

-- declarations

pub end_plain : (k : ℕ) (ts : List Token) → declarations_end_from k ts ≡ declarations_end_from k (map plain ts)
unfolding declarations_end_from
end_plain k [] = refl
end_plain k (t ∷ ts) = ap (λ x. if is_end t.kind then k else (if ends_declarations t.text then k else x)) (end_plain (k + 1) ts)

pub end_before : (k : ℕ) (ds R : List Token) → NotEnds ds → AllByRecursion (λ d. ends_declarations d.text ≡ false) ds → ((j : ℕ) → declarations_end_from j R ≡ j) → declarations_end_from k (ds ++ R) ≡ k + length ds
unfolding declarations_end_from
end_before k [] R n e h = let here : k ≡ k + 0 = omega arith in h k ∙ here
end_before k (d ∷ ds) R (m, n) (f, e) h =
    let there : k + 1 + length ds ≡ k + suc (length ds) = omega arith in
    (λ i. if m i then k else (if f i then k else declarations_end_from (k + 1) (ds ++ R))) ∙ end_before (k + 1) ds R n e h ∙ there

either_way : (b : Bool) (k : ℕ) → (if b then k else k) ≡ k
either_way true k = refl
either_way false k = refl

pub stops_at : (t : Token) (rest : List Token) → ends_declarations t.text ≡ true → (j : ℕ) → declarations_end_from j (t ∷ rest) ≡ j
unfolding declarations_end_from
stops_at t rest e j = (λ i. if is_end t.kind then j else (if e i then j else declarations_end_from (j + 1) rest)) ∙ either_way (is_end t.kind) j

pub behind_oracles : (o : Token) (rest : List Token) → is_end o.kind ≡ false → Is o (codes "oracles") → declarations_end_from 0 (o ∷ rest) ≡ declarations_end_from 1 rest
unfolding declarations_end_from
behind_oracles o rest e f = λ i. if e i then 0 else (if ends_declarations (f i) then 0 else declarations_end_from 1 rest)

-- proof blocks

pub process_plain : (depth k : ℕ) (ts : List Token) → process_from depth k ts ≡ process_from depth k (map plain ts)
unfolding process_from
process_plain depth k [] = refl
process_plain depth k (t ∷ ts) = ap (λ x. if is_end t.kind then k else (if is_process depth t.text then k + 1 else x)) (process_plain (open_behind depth t.text) (k + 1) ts)

-- one token further, which isn't the word
process_on : (depth k : ℕ) (t : Token) (ts : List Token) → is_end t.kind ≡ false → is_process depth t.text ≡ false → process_from depth k (t ∷ ts) ≡ process_from (open_behind depth t.text) (k + 1) ts
unfolding process_from
process_on depth k t ts e f = λ i. if e i then k else (if f i then k + 1 else process_from (open_behind depth t.text) (k + 1) ts)

-- Tokens up to the first word `process` outside braces, where so many braces are open before them.
pub data Scans : ℕ → List Token → Type 0 where
  over : Scans 0 []
  on : {depth : ℕ} {t : Token} {ts : List Token} → is_process depth t.text ≡ false → Scans (open_behind depth t.text) ts → Scans depth (t ∷ ts)

pub scans_end : (depth k : ℕ) (block : List Token) (p : Token) (rest : List Token) → Scans depth block → NotEnds block → is_end p.kind ≡ false → Is p (codes "process") → process_from depth k (block ++ p ∷ rest) ≡ k + length block + 1
unfolding process_from
scans_end depth k [] p rest over n e w = let here : k + 1 ≡ k + 0 + 1 = omega arith in (λ i. if e i then k else (if is_process 0 (w i) then k + 1 else process_from (open_behind 0 p.text) (k + 1) rest)) ∙ here
scans_end depth k (t ∷ ts) p rest (on f s) (m, n) e w =
    let there : k + 1 + length ts + 1 ≡ k + suc (length ts) + 1 = omega arith in
    process_on depth k t (ts ++ p ∷ rest) m f ∙ scans_end (open_behind depth t.text) (k + 1) ts p rest s n e w ∙ there

-- between braces no word is it
pub inside : (depth : ℕ) (text : List ℕ) → is_process (suc depth) text ≡ false
inside depth text = let e : (suc depth == 0) ≡ false = grind (arith, nat_tests) in ap (λ b. b && bytes_eq text (codes "process")) e

pub same_depth : (depth : ℕ) (text : List ℕ) → is_brace text ≡ false → open_behind depth text ≡ depth
same_depth depth text e =
    let p = or_parts (bytes_eq text (codes "{")) (bytes_eq text (codes "}")) e in
    λ i. if p.0 i then suc depth else (if p.1 i then depth - 1 else depth)

pub fewer : (depth : ℕ) → suc depth - 1 ≡ depth
fewer depth = omega arith

braced : (depth : ℕ) (ms rest : List Token) → AreBraced ms → Scans (suc depth) rest → Scans (suc depth) (ms ++ rest)
braced depth ms rest none s = s
braced depth (t ∷ ms) rest (another e a) s = on (inside depth t.text) (subst (λ d. Scans d (ms ++ rest)) (sym (same_depth (suc depth) t.text e)) (braced depth ms rest a s))
braced depth (t ∷ whole) rest (pair inner closer ms e a f b) s =
    subst (λ l. Scans (suc depth) (t ∷ l)) (sym (append_assoc inner (closer ∷ ms) rest)) (
    on (inside depth t.text) (subst (λ d. Scans d (inner ++ closer ∷ (ms ++ rest))) (sym (ap (open_behind (suc depth)) e)) (
    braced (suc depth) inner (closer ∷ (ms ++ rest)) a (
    on (inside (suc depth) closer.text) (subst (λ d. Scans d (ms ++ rest)) (sym (ap (open_behind (suc (suc depth))) f ∙ fewer (suc depth))) (braced depth ms rest b s))
    ))))

-- a proof block is such tokens
pub block_scans : (block : List Token) → (block ≡ []) ⊎ IsBlock block → Scans 0 block
block_scans block (inl e) = subst (Scans 0) (sym e) over
block_scans block (inr b) =
    subst (Scans 0) (sym b.split) (
    on (ap (is_process 0) b.begins) (subst (λ d. Scans d (b.opener ∷ (b.inner ++ b.closer ∷ []))) (sym (ap (open_behind 0) b.begins)) (
    on (ap (is_process 0) b.opens) (subst (λ d. Scans d (b.inner ++ b.closer ∷ [])) (sym (ap (open_behind 0) b.opens)) (
    braced 0 b.inner (b.closer ∷ []) b.braced (on (inside 0 b.closer.text) (subst (λ d. Scans d []) (sym (ap (open_behind 1) b.closes)) over))
    )))))

-- what is barred is written otherwise
abbrev pub barred_as : Region → Token → Token
barred_as r t = if is_barred r t.text then word_for Never 0 else t

pub declaring_kept : (ds : List Token) → AllByRecursion IsDeclaring ds → map (barred_as Declarations) ds ≡ ds
declaring_kept [] a = refl
declaring_kept (d ∷ ds) ((f, g), a) = λ i. (if g i then word_for Never 0 else d) ∷ declaring_kept ds a i

-- tokens that are written as they are

module _ (ts : List Token) where
  plain_kept : (r : Region) (k : ℕ) → plain (kept_at r ts k) ≡ (if is_barred r (token_at ts k).text then word_for Never 0 else named_at ts k)
  plain_kept r k = by_bar (is_barred r (token_at ts k).text)
    where
      by_bar : (b : Bool) → plain (if b then word_for Never k else copy_for ts k k) ≡ (if b then word_for Never 0 else named_at ts k)
      by_bar true = refl
      by_bar false = plain_copy ts k k

  kept_is : (r : Region) (pre us rest : List Token) → map plain ts ≡ pre ++ (us ++ rest) → NotEnds us → map plain (kept_from r ts (length pre) (length us)) ≡ map (barred_as r) us
  unfolding kept_from
  kept_is r pre [] rest e n = refl
  kept_is r pre (t ∷ us) rest e (m, n) =
      let x = plain_at ts pre t (us ++ rest) e in
      λ i. (plain_kept r (length pre) ∙ (λ j. if is_barred r (x j).text then word_for Never 0 else named_is ts pre t (us ++ rest) e m j)) i
      ∷ (ap (λ l. map plain (kept_from r ts l (length us))) (sym (length_push pre t)) ∙ kept_is r (pre ++ t ∷ []) us rest (pushed ts pre t (us ++ rest) e) n) i

  pub declarations_are : (pre ds rest : List Token) → map plain ts ≡ pre ++ (ds ++ rest) → NotEnds ds → map plain (kept_from Declarations ts (length pre) (length ds)) ≡ map (barred_as Declarations) ds
  declarations_are = kept_is Declarations

  pub block_is : (pre block rest : List Token) → map plain ts ≡ pre ++ (block ++ rest) → NotEnds block → map plain (kept_from Block ts (length pre) (length block)) ≡ map in_block block
  block_is = kept_is Block

  -- oracles as channels

  channels_are : (before : ℕ) (w : Word) (v : Token) → plain (word_for w before) ≡ v → (k : ℕ) (ks : List ℕ) → map plain (channels ts before w (k ∷ ks)) ≡ v ∷ named_at ts k ∷ and_others (map (named_at ts) ks)
  channels_are before w v e k [] = λ i. e i ∷ plain_copy ts k k i ∷ symbol (codes ".") ∷ []
  channels_are before w v e k (j ∷ ks) = λ i. e i ∷ plain_copy ts k k i ∷ channels_are before Comma (symbol (codes ",")) refl j ks i

  pub declaration_is : (before : ℕ) (ks : List ℕ) → map plain (declaration ts before ks) ≡ declared_as_channels (map (named_at ts) ks)
  declaration_is before [] = refl
  declaration_is before (k ∷ ks) = channels_are before Channel (word (codes "channel")) refl k ks

-- a word `process` stands outside braces
abbrev pub has_process : (depth : ℕ) → List Token → Bool
has_process depth [] = false
has_process depth (t ∷ ts) = is_process depth t.text || has_process (open_behind depth t.text) ts
