-- A source whose translation is a file is an oracle file.
use Rattle.std.proofs.Common.{◌≡◌, ℕ, zero, suc, ◌-◌, Bool, true, false, if◌then◌else◌, ◌||◌, ◌⊎◌, inl, inr, List, [], ◌∷◌, ◌++◌, length, map, take, codes, refl, ap, sym, ◌∙◌, subst, arith}
use Rattle.std.specs.List.{AllByRecursion}
use Rattle.std.specs.Str.{bytes_eq}
use Rattle.std.proofs.lemmas.Bool.{cases_Bool, both_ways}
use Rattle.std.proofs.lemmas.List.{append_assoc, append-nil}
use Rattle.cv_lex.specs.Lexis.{Token, end_token, IsToken}
use Rattle.cv_lex.specs.View.{AreTokens, token_at}
use Rattle.cv_parse_notation.specs.declared.sign.Mark.TheVariants as mark
use Rattle.cv_parse_notation.specs.declared.sign.Sign.{Sign}
use Rattle.cv_parse_notation.specs.declared.sign.Sign.TheVariants as sign
use Rattle.cv_parse_notation.specs.Form.{many, note}
use Rattle.cv_parse_notation.specs.Spells.{Use}
use Rattle.cv_parse_grammar.specs.Declarations.{declaration}
use Rattle.cv_parse_grammar.specs.Files.{IsFile, levels}
use Rattle.cv_parse_grammar.specs.declared.role.Role.{Role}
use Rattle.cv_parse_grammar.specs.Processes as row
use Rattle.cv_parse_grammar.specs.Rules.{File, file, matched}
use Rattle.std.proofs.lemmas.Slice.Eq.{bytes_eq-Decides}
use Rattle.cv_parse_tables.proofs.terminals.Naming.{text_test}
use Rattle.cv_parse_tables.specs.terminals.Braces.{is_end, open_behind, read_from}
use Rattle.cv_parse_tables.specs.terminals.Signs.{signs_of}
use Rattle.cv_oracles.specs.declared.region.Region.TheVariants.{Declarations}
use Rattle.cv_oracles.specs.declared.words.Word.TheVariants.{Never}
use Rattle.cv_oracles.specs.Pieces.{word_for}
use Rattle.cv_oracles.specs.Regions.{is_barred, is_own_word}
use Rattle.cv_oracles.specs.Translations.{ends_declarations, file_for, is_oracle_file, is_process}
use Rattle.cv_oracle_laws.specs.Tokens as Tokens
use Rattle.cv_oracle_laws.specs.Tokens.{plain, symbol}
use Rattle.cv_oracle_laws.specs.OracleFiles.{IsBlock, IsDeclaring, IsOracleFile, contents, declared_as_channels, in_block, new_among}
use Rattle.cv_oracle_laws.proofs.Parts.{has_process, Scans, barred_as, inside, not_end, on, over}
use Rattle.cv_oracles.specs.declared.form.Mode.TheVariants as mode
use Rattle.cv_oracle_laws.specs.Grammar.{Inputs, Stands}
use Rattle.cv_oracle_laws.proofs.Runs.{Opened, at, defines, writes}
use Rattle.cv_oracle_laws.proofs.Phrases.{forward}
use Rattle.cv_oracle_laws.proofs.Telling.{Tell, same_text}
use Rattle.cv_oracle_laws.proofs.Sources.{behind_first}
use Rattle.cv_oracle_laws.proofs.Back.{left_behind}
use Rattle.cv_oracle_laws.proofs.Processes.{process_back}
use Rattle.cv_oracle_laws.proofs.Braces.{block_back, no_block_back, no_word, text_there}
use Rattle.cv_oracle_laws.proofs.Wordless.{wordless_file}
use Rattle.cv_oracle_laws.proofs.Regions.{EndNone, Ends, NeverNone, pass_declarations, unread}
use Rattle.cv_oracle_laws.proofs.Signed.{AreSound, Sound, back_sound, both_sound, front_sound, plain_sound, tell_file, tell_plain}
use Rattle.cv_oracle_laws.proofs.Sounding.{declaration_fine, process_sound, word_sound}
use Rattle.cv_oracle_laws.proofs.Files.{all_tokens, contents_are, file_is, fronted, no_ends, stands_for, taken}
use Rattle.cv_oracle_laws.proofs.Bridge.{named_at, plain_at}
use Rattle.std.proofs.Math.ListN.{get_or-map}
use Rattle.std.proofs.lemmas.List.Elements.{recursion_from_All}
use Rattle.cv_oracle_laws.proofs.Spelled as spelled
use Rattle.cv_oracle_laws.proofs.Spelled.{AllOf, is_before, is_behind, is_both, is_level, is_made, is_may}
use Rattle.cv_oracle_laws.proofs.Terms.{bare_front, bare_mark}

-- the signs of a file: of declarations, of a proof block or none, and of a process

pub data FileSigns (gs rest : List Sign) : Type 0 where
  unproved : (ms ps : List Sign) → AllOf true bare_mark ms → gs ≡ ms ++ sign.Mark mark.Process ∷ ps → spelled.Is (suc levels) row.inputs ps rest → FileSigns gs rest
  proved : (ms inner ps : List Sign) → AllOf true bare_mark ms → gs ≡ ms ++ sign.Mark mark.Proof ∷ sign.Mark mark.OpenBrace ∷ inner → spelled.Is (suc levels) matched inner (sign.Mark mark.CloseBrace ∷ sign.Mark mark.Process ∷ ps) →
      spelled.Is (suc levels) row.inputs ps rest → FileSigns gs rest

-- a note has no sign
noted : {n : ℕ} {r : Role} {ts rest : List Sign} → spelled.Is n (note r) ts rest → ts ≡ rest
noted x = x.spelled.1.tokens

pub file_signs : (gs rest : List Sign) (f : File) (uses : List (Use Role)) → IsFile levels gs f uses rest → FileSigns gs rest
file_signs gs rest f uses d =
    let x : spelled.Is (suc levels) file gs rest = record { value = f; uses = uses; spelled = d } in
    let a = is_both (is_made x) in
    let ms = bare_front (many false declaration) refl a.1 in
    let b = is_both a.2 in
    let p = is_behind b.2 in
    let i = is_both (is_made p.2) in
    let j = is_both i.2 in
    let process : spelled.Is (suc levels) row.inputs p.0 rest = subst (λ l. spelled.Is (suc levels) row.inputs l rest) (sym (noted i.1)) (subst (λ l. spelled.Is (suc levels) row.inputs i.0 l) (noted j.2) j.1) in
    elim (is_may b.1) [
      | inl e ↦ unproved ms.signs p.0 ms.all (ms.split ∙ ap (λ l. ms.signs ++ l) (e.0 ∙ p.1)) process
      | inr y ↦
          let q = is_behind y in
          let o = is_behind (is_level q.2).1 in
          let c = is_both (is_made (is_before o.2)) in
          let k = is_both c.2 in
          let inner : spelled.Is (suc levels) matched o.0 (sign.Mark mark.CloseBrace ∷ sign.Mark mark.Process ∷ p.0) =
          subst (λ l. spelled.Is (suc levels) matched l (sign.Mark mark.CloseBrace ∷ sign.Mark mark.Process ∷ p.0)) (sym (noted c.1)) (subst (λ l. spelled.Is (suc levels) matched c.0 l) (noted k.2 ∙ ap (λ l. sign.Mark mark.CloseBrace ∷ l) p.1) k.1) in
          proved ms.signs o.0 p.0 ms.all (ms.split ∙ ap (λ l. ms.signs ++ l) (q.1 ∙ ap (λ l. sign.Mark mark.Proof ∷ l) o.1)) inner process
    ]

-- the parts of a source

record Parted (R : List Token) : Type 0 where
  declarations : List Token
  rest : List Token
  split : R ≡ declarations ++ rest
  none_ends : EndNone declarations
  ends : Ends rest

parted : (R : List Token) → Parted R
parted [] = record { declarations = []; rest = []; split = refl; none_ends = tt; ends = tt }
parted (t ∷ R) = by_end (ends_declarations t.text) refl (parted R) where
  by_end : (b : Bool) → ends_declarations t.text ≡ b → Parted R → Parted (t ∷ R)
  by_end true e p = record { declarations = []; rest = t ∷ R; split = refl; none_ends = tt; ends = e }
  by_end false e p = record {
    declarations = t ∷ p.declarations;
    rest = p.rest;
    split = ap (λ l. t ∷ l) p.split;
    none_ends = (e, p.none_ends);
    ends = p.ends;
  }

record Scanned (depth : ℕ) (R : List Token) : Type 0 where
  block : List Token
  process : Token
  definitions : List Token
  split : R ≡ block ++ process ∷ definitions
  scans : Scans depth block
  word : Tokens.Is process (codes "process")

process_word : (depth : ℕ) (text : List ℕ) → is_process depth text ≡ true → (depth ≡ 0) × (text ≡ codes "process")
process_word zero text e = (refl, (bytes_eq-Decides text (codes "process")).0 e)
process_word (suc depth) text e = absurd (both_ways (is_process (suc depth) text) (inside depth text) e)

scanned : (depth : ℕ) (R : List Token) → has_process depth R ≡ true → Scanned depth R
scanned depth [] h = absurd (cc)
scanned depth (t ∷ R) h = by_word (is_process depth t.text) refl h (scanned (open_behind depth t.text) R) where
  by_word : (b : Bool) → is_process depth t.text ≡ b → (b || has_process (open_behind depth t.text) R) ≡ true → (has_process (open_behind depth t.text) R ≡ true → Scanned (open_behind depth t.text) R) → Scanned depth (t ∷ R)
  by_word true e h more = let w = process_word depth t.text e in record { block = []; process = t; definitions = R; split = refl; scans = subst (λ d. Scans d []) (sym w.0) over; word = w.1 }
  by_word false e h more = let s = more h in record { block = t ∷ s.block; process = s.process; definitions = s.definitions; split = ap (λ l. t ∷ l) s.split; scans = on e s.scans; word = s.word }

-- a block, where there is one, begins with its word
begins_with : (block : List Token) (p : Token) (us : List Token) → Scans 0 block → Ends (block ++ p ∷ us) → (block ≡ []) ⊎ ((t : Token) × (rest : List Token) × (block ≡ t ∷ rest) × Tokens.Is t (codes "proof"))
begins_with [] p us s e = inl refl
begins_with (t ∷ block) p us (on f s) e = elim (text_test t.text (codes "proof")) [
  | inl a ↦ inr (t, block, refl, a.1)
  | inr a ↦ absurd (both_ways (ends_declarations t.text) (λ i. a i || f i) e)
]

-- tokens of the lexis

sound_token : (t : Token) → IsToken t.kind t.text → Sound t
sound_token t e = (not_end t.kind t.text e, λ h. e)

sound_tokens : (front : List Token) → AllByRecursion (λ t. IsToken t.kind t.text) front → AreSound (map plain front)
sound_tokens [] h = tt
sound_tokens (t ∷ front) (e, h) = (sound_token t e, sound_tokens front h)

sound_if : (b : Bool) (x y : Token) → Sound x → Sound y → Sound (if b then x else y)
sound_if true x y a b = a
sound_if false x y a b = b

barred_sound : (ds : List Token) → AreSound ds → AreSound (map (barred_as Declarations) ds)
barred_sound [] h = tt
barred_sound (d ∷ ds) (h, hs) = (sound_if (is_barred Declarations d.text) (word_for Never 0) d (word_sound Never) h, barred_sound ds hs)

block_sound : (b : List Token) → AreSound b → AreSound (map in_block b)
block_sound [] h = tt
block_sound (t ∷ b) (h, hs) = (sound_if (is_own_word t.text) (symbol (codes ":=")) t (word_sound Never) h, block_sound b hs)

pub tokens_sound : (ts T : List Token) (a : AreTokens ts) → contents ts ≡ T → AreSound T
tokens_sound ts T a e =
    let content : contents ts ≡ map plain a.front = ap (λ l. map plain (take (length l - 1) l)) a.all ∙ ap (map plain) (taken a.front (end_token a.end)) in
    subst AreSound (sym content ∙ e) (sound_tokens a.front (recursion_from_All (λ t. IsToken t.kind t.text) a.front a.each))

-- what is written for declarations ends none
barred_ends : (ds : List Token) → EndNone ds → EndNone (map (barred_as Declarations) ds)
barred_ends [] h = tt
barred_ends (d ∷ ds) (h, hs) = (by_bar (is_barred Declarations d.text), barred_ends ds hs) where
  by_bar : (b : Bool) → ends_declarations (if b then word_for Never 0 else d).text ≡ false
  by_bar true = refl
  by_bar false = h

ends_both : (a b : List Token) → EndNone a → EndNone b → EndNone (a ++ b)
ends_both [] b x y = y
ends_both (t ∷ a) b (h, x) y = (h, ends_both a b x y)

never_front : (a b : List Token) → NeverNone (a ++ b) → NeverNone a
never_front [] b h = tt
never_front (t ∷ a) b (e, h) = (e, never_front a b h)

-- so none of them is barred
declaring_of : (ds : List Token) → EndNone ds → NeverNone (map (barred_as Declarations) ds) → AllByRecursion IsDeclaring ds
declaring_of [] h n = tt
declaring_of (d ∷ ds) (h, hs) (n, ns) = ((h, by_bar (is_barred Declarations d.text) refl n), declaring_of ds hs ns) where
  by_bar : (b : Bool) → is_barred Declarations d.text ≡ b → bytes_eq (if b then word_for Never 0 else d).text (codes ":=") ≡ false → is_barred Declarations d.text ≡ false
  by_bar true e n = absurd (both_ways _ n refl)
  by_bar false e n = e

-- what is left behind a whole process is nothing
nothing_left : (o : Token) (fs : List Opened) (us : List Token) → Tell (writes (at mode.Behind o fs) us) [] → us ≡ []
nothing_left o fs [] a = refl
nothing_left o fs (t ∷ us) a = elim (behind_first o fs t us) [
  | inl w ↦ absurd (subst (λ l. Tell l []) w a)
  | inr w ↦ absurd (subst (λ l. Tell l []) w a)
]

-- a process, from its signs
whole_process : (o : Token) (us : List Token) (ps : List Sign) → spelled.Is (suc levels) row.inputs ps [] → Tell (read_from 0 (writes (at mode.Input o []) us)) ps → (ws os : List Token) × Stands Inputs us ws os []
whole_process o us ps x a =
    let f = bare_front row.inputs refl x in
    let all : AllOf true bare_mark ps = subst (AllOf true bare_mark) (sym (f.split ∙ append-nil f.signs)) f.all in
    let tell = unread (writes (at mode.Input o []) us) ps all a in
    let d = process_back levels (omega arith) o [] us ps [] x tell in
    let l = forward d.stands o [] in
    let none = nothing_left l.oracle (l.more ++ []) d.more (left_behind [] l.goes d.signs d.split d.long tell) in
    (d.file, d.oracles, subst (Stands Inputs us d.file d.oracles) none d.stands)

-- what ends declarations is written as it is
in_block_ends : (t : Token) → ends_declarations t.text ≡ true → ends_declarations (in_block t).text ≡ true
in_block_ends t e = elim (text_test t.text (codes "proof")) [
  | inl a ↦ by_text (codes "proof") a.1 refl
  | inr a ↦ elim (text_test t.text (codes "process")) [
    | inl b ↦ by_text (codes "process") b.1 refl
    | inr b ↦ absurd (both_ways (ends_declarations t.text) (λ i. a i || b i) e)
  ]
]
  where
    by_text : (text : List ℕ) → Tokens.Is t text → ends_declarations (if is_own_word text then symbol (codes ":=") else record { kind = t.kind; text = text; offset = t.offset }).text ≡ true → ends_declarations (in_block t).text ≡ true
    by_text text e h = subst (λ x. ends_declarations (if is_own_word x then symbol (codes ":=") else record { kind = t.kind; text = x; offset = t.offset }).text ≡ true) (sym e) h

-- the parts of the translation, from the signs of a file
module _ (ds block : List Token) (channels : List Token) (process : Token) (us : List Token) (o : Token) (word : Tokens.Is process (codes "process"))
    (ends : EndNone (ds ++ channels)) (starts : (block ≡ []) ⊎ ((t : Token) × (rest : List Token) × (block ≡ t ∷ rest) × Tokens.Is t (codes "proof"))) (scans : Scans 0 block) where
  abbrev tail : List Token
  tail = process ∷ writes (at mode.Input o []) us

  ending : (b : List Token) → (b ≡ []) ⊎ ((t : Token) × (rest : List Token) × (b ≡ t ∷ rest) × Tokens.Is t (codes "proof")) → Ends (map in_block b ++ tail)
  ending b (inl e) = subst (λ l. Ends (map in_block l ++ tail)) (sym e) (ap ends_declarations word)
  ending b (inr k) = subst (λ l. Ends (map in_block l ++ tail)) (sym k.2) (in_block_ends k.0 (ap ends_declarations k.3))

  -- behind the word `process`
  behind_word : (ps : List Sign) → Tell (read_from 0 tail) (sign.Mark mark.Process ∷ ps) → Tell (read_from 0 (writes (at mode.Input o []) us)) ps
  unfolding read_from
  behind_word ps a = subst (λ d. Tell (read_from d (writes (at mode.Input o []) us)) ps) (ap (open_behind 0) word) a.1

  pub record Found : Type 0 where
    pub file : List Token
    pub oracles : List Token
    pub stands : Stands Inputs us file oracles []
    pub proving : (block ≡ []) ⊎ IsBlock block
    pub never : NeverNone (ds ++ channels)

  no_block : (b : List Token) → (b ≡ []) ⊎ ((t : Token) × (rest : List Token) × (b ≡ t ∷ rest) × Tokens.Is t (codes "proof")) → (ps : List Sign) → Tell (read_from 0 (map in_block b ++ tail)) (sign.Mark mark.Process ∷ ps) → b ≡ []
  unfolding read_from
  no_block b (inl e) ps a = e
  no_block b (inr k) ps a =
      let x = subst (λ l. Tell (read_from 0 (map in_block l ++ tail)) (sign.Mark mark.Process ∷ ps)) k.2 a in
      let y = text_there k.0 (codes "process") refl (same_text (in_block k.0) mark.Process refl x.0) in
      absurd (both_ways (bytes_eq k.0.text (codes "process")) (ap (λ x. bytes_eq x (codes "process")) k.3) (ap (λ x. bytes_eq x (codes "process")) y))

  found_parts : (gs : List Sign) → FileSigns gs [] → Tell (read_from 0 (ds ++ channels ++ map in_block block ++ tail)) gs → Found
  unfolding read_from
  found_parts gs (unproved ms ps all e x) a =
      let b = subst (λ l. Tell (read_from 0 l) (ms ++ sign.Mark mark.Process ∷ ps)) (append_assoc (ds ++ channels) (map in_block block) tail) (subst (Tell (read_from 0 (ds ++ channels ++ map in_block block ++ tail))) e a) in
      let c = pass_declarations (ds ++ channels) (map in_block block ++ tail) ms mark.Process ps ends (ending block starts) all refl refl b in
      let none = no_block block starts ps c.0 in
      let w = whole_process o us ps x (behind_word ps (subst (λ l. Tell (read_from 0 (map in_block l ++ tail)) (sign.Mark mark.Process ∷ ps)) none c.0)) in
      record { file = w.0; oracles = w.1; stands = w.2; proving = inl none; never = c.1 }
  found_parts gs (proved ms inner ps all e m x) a =
      let b = subst (λ l. Tell (read_from 0 l) (ms ++ sign.Mark mark.Proof ∷ sign.Mark mark.OpenBrace ∷ inner)) (append_assoc (ds ++ channels) (map in_block block) tail) (subst (Tell (read_from 0 (ds ++ channels ++ map in_block block ++ tail))) e a) in
      let c = pass_declarations (ds ++ channels) (map in_block block ++ tail) ms mark.Proof (sign.Mark mark.OpenBrace ∷ inner) ends (ending block starts) all refl refl b in
      with_block block starts scans ms inner ps m x c.0 c.1 refl
    where
      with_block : (b : List Token) → (b ≡ []) ⊎ ((t : Token) × (rest : List Token) × (b ≡ t ∷ rest) × Tokens.Is t (codes "proof")) → Scans 0 b → (ms inner ps : List Sign) →
          spelled.Is (suc levels) matched inner (sign.Mark mark.CloseBrace ∷ sign.Mark mark.Process ∷ ps) → spelled.Is (suc levels) row.inputs ps [] →
          Tell (read_from 0 (map in_block b ++ tail)) (sign.Mark mark.Proof ∷ sign.Mark mark.OpenBrace ∷ inner) → NeverNone (ds ++ channels) → (b ≡ block) → Found
      with_block b (inl e) sc ms inner ps m x a n same =
          let y = same_text process mark.Proof refl (subst (λ l. Tell (read_from 0 (map in_block l ++ tail)) (sign.Mark mark.Proof ∷ sign.Mark mark.OpenBrace ∷ inner)) e a).0 in
          absurd (both_ways (bytes_eq process.text (codes "proof")) (ap (λ x. bytes_eq x (codes "proof")) word) (ap (λ x. bytes_eq x (codes "proof")) y))
      with_block b (inr k) sc ms inner ps m x a n same =
          let t = k.0 in
          let z = block_back (suc levels) t k.1 process (writes (at mode.Input o []) us) inner ps k.3 word (subst (Scans 0) k.2 sc) m (subst (λ l. Tell (read_from 0 (map in_block l ++ tail)) (sign.Mark mark.Proof ∷ sign.Mark mark.OpenBrace ∷ inner)) k.2 a) in
          let w = whole_process o us ps x (behind_word ps z.tell) in
          record { file = w.0; oracles = w.1; stands = w.2; proving = inr (subst IsBlock (sym k.2 ∙ same) z.block_is); never = n }

-- the first token of an oracle file

first_word : (ts T : List Token) → map plain ts ≡ T ++ end_token 0 ∷ [] → is_oracle_file ts ≡ true → (o : Token) × (R : List Token) × (T ≡ o ∷ R) × Tokens.Is o (codes "oracles")
first_word ts [] e h = absurd (both_ways (is_oracle_file ts) (ap (λ t. bytes_eq t.text (codes "oracles")) (plain_at ts [] (end_token 0) [] e)) h)
first_word ts (o ∷ R) e h = (o, R, refl, (bytes_eq-Decides o.text (codes "oracles")).0 (ap (λ t. bytes_eq t.text (codes "oracles")) (sym (plain_at ts [] o (R ++ end_token 0 ∷ []) e)) ∙ h))

-- a token that is seen is one of the lexis
named_sound : (ts : List Token) (T : List Token) → map plain ts ≡ T ++ end_token 0 ∷ [] → AreSound T → (k : ℕ) → Sound (named_at ts k)
named_sound ts T e h k = by_end (is_end (token_at ts k).kind) refl where
  by_end : (b : Bool) → is_end (token_at ts k).kind ≡ b → Sound (if b then word_for Never 0 else plain (token_at ts k))
  by_end true f = word_sound Never
  by_end false f = at_place T k h (sym (get_or-map plain ts k (end_token 0)) ∙ ap (λ l. token_at l k) e) f where
    at_place : (T : List Token) (k : ℕ) → AreSound T → plain (token_at ts k) ≡ token_at (T ++ end_token 0 ∷ []) k → is_end (token_at ts k).kind ≡ false → Sound (plain (token_at ts k))
    at_place T k h g f = subst Sound (sym g) (there T k h (ap (λ t. is_end t.kind) (sym g) ∙ f)) where
      there : (T : List Token) (k : ℕ) → AreSound T → is_end (token_at (T ++ end_token 0 ∷ []) k).kind ≡ false → Sound (token_at (T ++ end_token 0 ∷ []) k)
      there [] zero h f = absurd (cc)
      there [] (suc k) h f = absurd (cc)
      there (t ∷ T) zero (x, h) f = x
      there (t ∷ T) (suc k) (x, h) f = there T k h f

-- without the word `process` there is no file

block_ends : (rest : List Token) → Ends rest → Ends (map in_block rest)
block_ends [] e = tt
block_ends (t ∷ rest) e = in_block_ends t e

no_parts : (ds rest : List Token) → EndNone ds → Ends rest → has_process 0 rest ≡ false → (gs : List Sign) → FileSigns gs [] → Tell (read_from 0 (ds ++ map in_block rest)) gs → ⊥
no_parts ds rest n e h gs (unproved ms ps all f x) a =
    let c = pass_declarations ds (map in_block rest) ms mark.Process ps n (block_ends rest e) all refl refl (subst (Tell (read_from 0 (ds ++ map in_block rest))) f a) in
    no_word rest ps h (subst (λ l. Tell (read_from 0 l) (sign.Mark mark.Process ∷ ps)) (sym (append-nil (map in_block rest))) c.0)
no_parts ds rest n e h gs (proved ms inner ps all f m x) a =
    let c = pass_declarations ds (map in_block rest) ms mark.Proof (sign.Mark mark.OpenBrace ∷ inner) n (block_ends rest e) all refl refl (subst (Tell (read_from 0 (ds ++ map in_block rest))) f a) in
    no_block_back (suc levels) rest inner ps h m (subst (λ l. Tell (read_from 0 l) (sign.Mark mark.Proof ∷ sign.Mark mark.OpenBrace ∷ inner)) (sym (append-nil (map in_block rest))) c.0)

no_file : (ts : List Token) (f : File) (uses : List (Use Role)) (a : AreTokens ts) (o : Token) (R : List Token) → contents ts ≡ o ∷ R → Tokens.Is o (codes "oracles") → (p : Parted R) → has_process 0 p.rest ≡ false → IsFile levels (signs_of (file_for ts)).signs f uses [] → ⊥
no_file ts f uses a o R e i p h d =
    let T = o ∷ p.declarations ++ p.rest in
    let split : contents ts ≡ T = e ∙ ap (λ l. o ∷ l) p.split in
    let all = all_tokens ts T a split in
    let ends = no_ends ts T a split in
    let sound = tokens_sound ts T a split in
    let whole = wordless_file ts o p.declarations p.rest all ends i p.none_ends p.ends h in
    let X = map (barred_as Declarations) p.declarations ++ map in_block p.rest in
    let w = fronted ts in
    let same : map plain w.front ≡ X = sym w.plainly ∙ contents_are (file_for ts) X (end_token 0) whole in
    let sound_X : AreSound X = both_sound (map (barred_as Declarations) p.declarations) (map in_block p.rest) (barred_sound p.declarations (front_sound p.declarations p.rest sound.1)) (block_sound p.rest (back_sound p.declarations p.rest sound.1)) in
    let tell = subst (λ l. Tell (read_from 0 l) (signs_of (w.front ++ end_token w.last ∷ [])).signs) same (tell_plain 0 w.front _ (tell_file w.front w.last (plain_sound w.front (subst AreSound (sym same) sound_X)))) in
    let signs = subst (λ l. IsFile levels (signs_of l).signs f uses []) w.all d in
    no_parts (map (barred_as Declarations) p.declarations) p.rest (barred_ends p.declarations p.none_ends) p.ends h _ (file_signs _ [] f uses signs) tell

pub told_by_translation : (ts : List Token) (f : File) (uses : List (Use Role)) → AreTokens ts → is_oracle_file ts ≡ true → IsFile levels (signs_of (file_for ts)).signs f uses [] → IsOracleFile (contents ts) (contents (file_for ts))
told_by_translation ts f uses a is d = by_parts (contents ts) refl (first_word ts (contents ts) (all_tokens ts (contents ts) a refl) is) where
  by_scan : (o : Token) (R : List Token) → contents ts ≡ o ∷ R → Tokens.Is o (codes "oracles") → (p : Parted R) → Scanned 0 p.rest → IsOracleFile (contents ts) (contents (file_for ts))
  by_scan o R e i p s =
      let T = o ∷ p.declarations ++ s.block ++ s.process ∷ s.definitions in
      let split : contents ts ≡ T = e ∙ ap (λ l. o ∷ l) (p.split ∙ ap (λ l. p.declarations ++ l) s.split ∙ sym (append_assoc p.declarations s.block (s.process ∷ s.definitions))) in
      let all = all_tokens ts T a split in
      let no = no_ends ts T a split in
      let sound = tokens_sound ts T a split in
      let starts = begins_with s.block s.process s.definitions s.scans (subst Ends s.split p.ends) in
      let k = length (o ∷ p.declarations ++ s.block ++ s.process ∷ []) in
      let n = named_at ts k in
      let st = at mode.Input n [] in
      let channels = declared_as_channels (new_among [] (defines st s.definitions)) in
      let whole = file_is ts o p.declarations s.block s.process s.definitions all no i starts s.scans s.word p.none_ends in
      let X = map (barred_as Declarations) p.declarations ++ channels ++ map in_block s.block ++ s.process ∷ writes st s.definitions in
      let w = fronted ts in
      let same : map plain w.front ≡ X = sym w.plainly ∙ contents_are (file_for ts) X (end_token 0) whole in
      let fine = declaration_fine st s.definitions in
      let back = back_sound (o ∷ p.declarations ++ s.block) (s.process ∷ s.definitions) sound in
      let front = front_sound (o ∷ p.declarations ++ s.block) (s.process ∷ s.definitions) sound in
      let sound_X : AreSound X =
      both_sound (map (barred_as Declarations) p.declarations ++ channels ++ map in_block s.block) (s.process ∷ writes st s.definitions) (
      both_sound (map (barred_as Declarations) p.declarations ++ channels) (map in_block s.block) (
      both_sound (map (barred_as Declarations) p.declarations) channels (barred_sound p.declarations (front_sound p.declarations s.block front.1)) fine.0)
      (block_sound s.block (back_sound p.declarations s.block front.1)))
      (back.0, process_sound n s.definitions (named_sound ts T all sound k) back.1) in
      let tell = subst (λ l. Tell (read_from 0 l) (signs_of (w.front ++ end_token w.last ∷ [])).signs) same (tell_plain 0 w.front _ (tell_file w.front w.last (plain_sound w.front (subst AreSound (sym same) sound_X)))) in
      let signs = subst (λ l. IsFile levels (signs_of l).signs f uses []) w.all d in
      let found = found_parts (map (barred_as Declarations) p.declarations) s.block channels s.process s.definitions n s.word
      (ends_both (map (barred_as Declarations) p.declarations) channels (barred_ends p.declarations p.none_ends) fine.1) starts s.scans _ (file_signs _ [] f uses signs) tell in
      let oracle_file : IsOracleFile (contents ts) (p.declarations ++ declared_as_channels (new_among [] found.oracles) ++ map in_block s.block ++ s.process ∷ found.file) = record {
        oracles = o;
        declarations = p.declarations;
        block = s.block;
        process = s.process;
        definitions = s.definitions;
        inputs = found.file;
        names = found.oracles;
        split = split;
        first = i;
        declaring = declaring_of p.declarations p.none_ends (never_front (map (barred_as Declarations) p.declarations) channels found.never);
        proving = found.proving;
        begins = s.word;
        stands = found.stands;
        file_is = refl;
      } in
      subst (IsOracleFile (contents ts)) (sym (stands_for ts _ a oracle_file)) oracle_file

  by_parts : (T : List Token) → contents ts ≡ T → (x : (o : Token) × (R : List Token) × (T ≡ o ∷ R) × Tokens.Is o (codes "oracles")) → IsOracleFile (contents ts) (contents (file_for ts))
  by_parts T e x =
      let p = parted x.1 in
      elim (cases_Bool (has_process 0 p.rest)) [
        | inl h ↦ by_scan x.0 x.1 (e ∙ x.2) x.3 p (scanned 0 p.rest h)
        | inr h ↦ absurd (no_file ts f uses a x.0 x.1 (e ∙ x.2) x.3 p h d)
      ]
