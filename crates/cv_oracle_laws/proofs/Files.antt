-- The translation of an oracle file is the file for which it stands.
use Rattle.std.proofs.Common.{refl, ℕ, false, ◌≡◌, suc, ◌+◌, ◌-◌, min, true, ◌⊎◌, inl, inr, if◌then◌else◌, List, [], ◌∷◌, ◌++◌, length, map, take, drop, codes, ap, sym, ◌∙◌, subst, arith}
use Rattle.std.specs.List.{AllByRecursion}
use Rattle.std.proofs.Math.Seq.{take-append_seam, drop-append_seam}
use Rattle.std.proofs.lemmas.List.{append_assoc, append-nil, drop-map, length-append, length-map, length_push, map-append, map_push, take-map}
use Rattle.cv_lex.specs.Lexis.{Token, end_token}
use Rattle.cv_lex.specs.View.{AreTokens}
use Rattle.cv_oracles.specs.declared.form.Mode.TheVariants as mode
use Rattle.cv_oracles.specs.declared.region.Region.TheVariants.{Declarations, Block}
use Rattle.cv_oracles.specs.Readings.{at_start}
use Rattle.cv_oracles.specs.Regions.{is_own_word}
use Rattle.cv_oracles.specs.Translations.{declaration, declarations_end, declarations_end_from, ends_declarations, file_for, kept_from, oracles_from, parts, process_at, process_from, written_from}
use Rattle.cv_oracle_laws.specs.Tokens.{plain, symbol, Is}
use Rattle.cv_oracle_laws.specs.OracleFiles.{IsBlock, IsDeclaring, IsOracleFile, contents, declared_as_channels, in_block, new_among}
use Rattle.cv_oracle_laws.proofs.Runs.{State, at, writes, defines}
use Rattle.cv_oracle_laws.proofs.Phrases.{forward}
use Rattle.cv_oracle_laws.proofs.Bridge.{NotEnds, named_at, oracles_is, written_is}
use Rattle.cv_oracle_laws.proofs.Parts.{Scans, back_not_ends, barred_as, behind_oracles, block_is, block_scans, declaring_kept, scans_end, declaration_is, declarations_are, end_before, stops_at, end_plain, front_not_ends, process_plain, tokens_not_ends}

pub taken : (front : List Token) (t : Token) → take (length (front ++ t ∷ []) - 1) (front ++ t ∷ []) ≡ front
taken front t =
    let long = length_push front t in
    let n : length (front ++ t ∷ []) - 1 ≡ length front = omega arith in
    ap (λ k. take k (front ++ t ∷ [])) n ∙ take-append_seam front (t ∷ [])

word_stays : (p : Token) → Is p (codes "process") → in_block p ≡ p
word_stays p e = λ i. if is_own_word (e i) then symbol (codes ":=") else p

-- an oracle file, part by part
module _ (ts : List Token) (oracles : Token) (ds block : List Token) (process : Token) (us : List Token)
    (all : map plain ts ≡ (oracles ∷ ds ++ block ++ process ∷ us) ++ end_token 0 ∷ [])
    (ends : NotEnds (oracles ∷ ds ++ block ++ process ∷ us))
    (first : Is oracles (codes "oracles")) (starting : (block ≡ []) ⊎ ((t : Token) × (rest : List Token) × (block ≡ t ∷ rest) × Is t (codes "proof"))) (scans : Scans 0 block) (word : Is process (codes "process")) where
  abbrev behind : List Token
  behind = process ∷ (us ++ end_token 0 ∷ [])

  abbrev pub before : List Token
  before = oracles ∷ ds ++ block ++ process ∷ []

  at_block : map plain ts ≡ (oracles ∷ ds) ++ (block ++ behind)
  at_block = all ∙ append_assoc (oracles ∷ ds ++ block) (process ∷ us) (end_token 0 ∷ []) ∙ append_assoc (oracles ∷ ds) block behind

  at_process : map plain ts ≡ before ++ (us ++ end_token 0 ∷ [])
  at_process = all ∙ append_assoc (oracles ∷ ds ++ block) (process ∷ us) (end_token 0 ∷ []) ∙ sym (append_assoc (oracles ∷ ds ++ block) (process ∷ []) (us ++ end_token 0 ∷ []))

  ends_before : NotEnds (oracles ∷ ds ++ block)
  ends_before = front_not_ends (oracles ∷ ds ++ block) (process ∷ us) ends

  ends_ds : NotEnds ds
  ends_ds = front_not_ends ds block ends_before.1

  ends_block : NotEnds block
  ends_block = back_not_ends ds block ends_before.1

  ends_behind : NotEnds (process ∷ us)
  ends_behind = back_not_ends (oracles ∷ ds ++ block) (process ∷ us) ends

  -- what ends the declarations is the first token behind them
  stop : (b : List Token) → (b ≡ []) ⊎ ((t : Token) × (rest : List Token) × (b ≡ t ∷ rest) × Is t (codes "proof")) → (t : Token) × (rest : List Token) × (b ++ behind ≡ t ∷ rest) × (ends_declarations t.text ≡ true)
  stop b (inl e) = (process, us ++ end_token 0 ∷ [], ap (λ l. l ++ behind) e, ap ends_declarations word)
  stop b (inr k) = (k.0, k.1 ++ behind, ap (λ l. l ++ behind) k.2, ap ends_declarations k.3)

  module _ (declaring : AllByRecursion (λ d. ends_declarations d.text ≡ false) ds) where
    end_is : declarations_end ts ≡ suc (length ds)
    end_is =
        let s = stop block starting in
        let n : 1 + length ds ≡ suc (length ds) = omega arith in
        end_plain 0 ts
        ∙ ap (declarations_end_from 0) (at_block ∙ ap (λ l. oracles ∷ ds ++ l) s.2)
        ∙ behind_oracles oracles (ds ++ s.0 ∷ s.1) ends_before.0 first
        ∙ end_before 1 ds (s.0 ∷ s.1) ends_ds declaring (stops_at s.0 s.1 s.3)
        ∙ n

    begin_is : process_at ts (suc (length ds)) ≡ length before
    begin_is =
        let a = length-append (oracles ∷ ds ++ block) (process ∷ []) in
        let b = length-append (oracles ∷ ds) block in
        let n : suc (length ds) + length block + 1 ≡ length before = omega arith in
        process_plain 0 (suc (length ds)) (drop (suc (length ds)) ts)
        ∙ ap (process_from 0 (suc (length ds))) (sym (drop-map plain (suc (length ds)) ts) ∙ ap (drop (suc (length ds))) at_block ∙ drop-append_seam (oracles ∷ ds) (block ++ behind))
        ∙ scans_end 0 (suc (length ds)) block process (us ++ end_token 0 ∷ []) scans ends_block ends_behind.0 word
        ∙ n

    last_is : length ts - 1 ≡ length before + length us
    last_is =
        let a = length-map ts plain in
        let b : length (map plain ts) ≡ length (before ++ (us ++ end_token 0 ∷ [])) = ap length at_process in
        let c = length-append before (us ++ end_token 0 ∷ []) in
        let d = length_push us (end_token 0) in
        omega arith

    both_end : (b : List Token) → NotEnds b → NotEnds (b ++ process ∷ [])
    both_end [] n = (ends_behind.0, tt)
    both_end (t ∷ b) (e, n) = (e, both_end b n)

    abbrev inputs_at : List Token
    inputs_at = written_from ts (at_start (length before)) (length before) (length us)

    abbrev pub started : State
    started = at mode.Input (named_at ts (length before)) []

    written_as : map plain inputs_at ≡ writes started us
    written_as = written_is ts before us at_process ends_behind.1 (at_start (length before))

    oracles_as : map (named_at ts) (oracles_from ts (at_start (length before)) (length before) (length us) []) ≡ new_among [] (defines started us)
    oracles_as = oracles_is ts before us at_process ends_behind.1 (at_start (length before)) []

    -- the block, and the word behind it
    block_part : map plain (kept_from Block ts (suc (length ds)) (length before - suc (length ds))) ≡ map in_block block ++ process ∷ []
    block_part =
        let a = length-append (oracles ∷ ds ++ block) (process ∷ []) in
        let b = length-append (oracles ∷ ds) block in
        let c = length_push block process in
        let n : length before - suc (length ds) ≡ length (block ++ process ∷ []) = omega arith in
        ap (λ k. map plain (kept_from Block ts (suc (length ds)) k)) n
        ∙ block_is ts (oracles ∷ ds) (block ++ process ∷ []) (us ++ end_token 0 ∷ []) (at_block ∙ ap (λ l. oracles ∷ ds ++ l) (sym (append_assoc block (process ∷ []) (us ++ end_token 0 ∷ [])))) (both_end block ends_block)
        ∙ map_push in_block block process
        ∙ ap (λ x. map in_block block ++ x ∷ []) (word_stays process word)

    declarations_part : map plain (kept_from Declarations ts 1 (suc (length ds) - 1)) ≡ map (barred_as Declarations) ds
    declarations_part =
        let n : suc (length ds) - 1 ≡ length ds = omega arith in
        ap (λ k. map plain (kept_from Declarations ts 1 k)) n ∙ declarations_are ts (oracles ∷ []) ds (block ++ behind) at_block ends_ds

    -- what is written between the parts of the file
    abbrev pub composed : List Token
    composed = map (barred_as Declarations) ds ++ declared_as_channels (new_among [] (defines started us)) ++ map in_block block ++ process ∷ writes started us

    whole : map plain (parts ts (suc (length ds)) (length before) (length before + length us)) ≡ composed ++ end_token 0 ∷ []
    whole =
        let e = suc (length ds) in
        let b = length before in
        let m : min e 1 ≡ 1 = omega arith in
        let n : length before + length us - length before ≡ length us = omega arith in
        let A = kept_from Declarations ts 1 (e - 1) in
        let B = declaration ts e (oracles_from ts (at_start b) b (length us) []) in
        let C = kept_from Block ts e (b - e) in
        let D = written_from ts (at_start b) b (length us) in
        let E = end_token (length before + length us) ∷ [] in
        let X = map (barred_as Declarations) ds ++ declared_as_channels (new_among [] (defines started us)) in
        let Y = map in_block block in
        (λ i. map plain (kept_from Declarations ts (m i) (e - m i) ++ declaration ts e (oracles_from ts (at_start b) b (n i) []) ++ C ++ written_from ts (at_start b) b (n i) ++ E))
        ∙ map-append plain (A ++ B ++ C ++ D) E
        ∙ ap (λ x. x ++ map plain E) (
        map-append plain (A ++ B ++ C) D
        ∙ (λ i. (map-append plain (A ++ B) C ∙ (λ j. (map-append plain A B ∙ (λ k. declarations_part k ++ (declaration_is ts e (oracles_from ts (at_start b) b (length us) []) ∙ ap declared_as_channels oracles_as) k)) j ++ block_part j)) i ++ written_as i)
        ∙ append_assoc X (Y ++ process ∷ []) (writes started us)
        ∙ ap (λ x. X ++ x) (append_assoc Y (process ∷ []) (writes started us))
        ∙ sym (append_assoc X Y (process ∷ writes started us))
        )

    pub file_is : map plain (file_for ts) ≡ composed ++ end_token 0 ∷ []
    file_is =
        ap (λ e. map plain (parts ts e (process_at ts e) (length ts - 1))) end_is
        ∙ (λ i. map plain (parts ts (suc (length ds)) (begin_is i) (last_is i)))
        ∙ whole

-- a translation but for its end, which has this number
abbrev written_front : List Token → List Token
written_front ts =
    let e = declarations_end ts in
    let b = process_at ts e in
    let l = length ts - 1 in
    kept_from Declarations ts (min e 1) (e - min e 1) ++ declaration ts e (oracles_from ts (at_start b) b (l - b) []) ++ kept_from Block ts e (b - e) ++ written_from ts (at_start b) b (l - b)

pub record Fronted (ts : List Token) : Type 0 where
  pub front : List Token
  pub last : ℕ
  pub all : file_for ts ≡ front ++ end_token last ∷ []
  pub plainly : contents (file_for ts) ≡ map plain front

pub fronted : (ts : List Token) → Fronted ts
fronted ts = record {
  front = written_front ts;
  last = length ts - 1;
  all = refl;
  plainly = ap (map plain) (taken (written_front ts) (end_token (length ts - 1)));
}

pub contents_are : (ts us : List Token) (t : Token) → map plain ts ≡ us ++ t ∷ [] → contents ts ≡ us
contents_are ts us t e =
    sym (take-map plain (length ts - 1) ts)
    ∙ (λ i. take (sym (length-map ts plain) i - 1) (map plain ts))
    ∙ ap (λ l. take (length l - 1) l) e
    ∙ taken us t

-- all tokens, where those without the end are known
pub all_tokens : (ts us : List Token) (a : AreTokens ts) → contents ts ≡ us → map plain ts ≡ us ++ end_token 0 ∷ []
all_tokens ts us a e =
    let content : contents ts ≡ map plain a.front = ap (λ l. map plain (take (length l - 1) l)) a.all ∙ ap (map plain) (taken a.front (end_token a.end)) in
    ap (map plain) a.all ∙ map_push plain a.front (end_token a.end) ∙ ap (λ l. l ++ end_token 0 ∷ []) (sym content ∙ e)

pub no_ends : (ts us : List Token) (a : AreTokens ts) → contents ts ≡ us → NotEnds us
no_ends ts us a e =
    let content : contents ts ≡ map plain a.front = ap (λ l. map plain (take (length l - 1) l)) a.all ∙ ap (map plain) (taken a.front (end_token a.end)) in
    subst NotEnds (sym content ∙ e) (tokens_not_ends a.front a.each)

first_halves : (ds : List Token) → AllByRecursion IsDeclaring ds → AllByRecursion (λ d. ends_declarations d.text ≡ false) ds
first_halves [] a = tt
first_halves (d ∷ ds) ((f, g), a) = (f, first_halves ds a)

starts_as : (block : List Token) → (block ≡ []) ⊎ IsBlock block → (block ≡ []) ⊎ ((t : Token) × (rest : List Token) × (block ≡ t ∷ rest) × Is t (codes "proof"))
starts_as block (inl e) = inl e
starts_as block (inr b) = inr (b.proof, b.opener ∷ (b.inner ++ b.closer ∷ []), b.split, b.begins)

pub stands_for : (ts file : List Token) → AreTokens ts → IsOracleFile (contents ts) file → contents (file_for ts) ≡ file
unfolding writes defines
stands_for ts file a f =
    let s = named_at ts (length (f.oracles ∷ f.declarations ++ f.block ++ f.process ∷ [])) in
    let l = forward f.stands s [] in
    let w : writes (at mode.Input s []) f.definitions ≡ f.inputs = l.goes.written ∙ append-nil f.inputs in
    let o : defines (at mode.Input s []) f.definitions ≡ f.names = l.goes.defined ∙ append-nil f.names in
    contents_are (file_for ts) _ (end_token 0) (
    file_is ts f.oracles f.declarations f.block f.process f.definitions (all_tokens ts _ a f.split) (no_ends ts _ a f.split) f.first (starts_as f.block f.proving) (block_scans f.block f.proving) f.begins (first_halves f.declarations f.declaring)
    )
    ∙ (λ i. declaring_kept f.declarations f.declaring i ++ declared_as_channels (new_among [] (o i)) ++ map in_block f.block ++ f.process ∷ w i)
    ∙ sym f.file_is
