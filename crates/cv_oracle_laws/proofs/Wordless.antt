-- Without the word `process` the translation of a source is no file.
use Rattle.std.proofs.Common.{◌≡◌, ℕ, suc, ◌+◌, ◌-◌, min, false, if◌then◌else◌, List, [], ◌∷◌, ◌++◌, length, map, drop, codes, refl, ap, sym, ◌∙◌, arith}
use Rattle.std.proofs.Math.Seq.{drop-append_seam}
use Rattle.std.proofs.lemmas.Bool.{or_parts}
use Rattle.std.proofs.lemmas.List.{append_assoc, append-nil, drop-map, length-append, length-map, length_push, map-append}
use Rattle.cv_lex.specs.Lexis.{Token, end_token}
use Rattle.cv_parse_tables.specs.terminals.Braces.{open_behind}
use Rattle.cv_oracles.specs.declared.region.Region.TheVariants.{Declarations, Block}
use Rattle.cv_oracles.specs.Readings.{at_start}
use Rattle.cv_oracles.specs.Translations.{declaration, declarations_end, declarations_end_from, file_for, is_process, kept_from, oracles_from, parts, process_at, process_from, written_from}
use Rattle.cv_oracle_laws.specs.Tokens.{plain, Is}
use Rattle.cv_oracle_laws.specs.OracleFiles.{in_block}
use Rattle.cv_oracle_laws.proofs.Bridge.{NotEnds}
use Rattle.cv_oracle_laws.proofs.Parts.{end_before, stops_at, has_process, back_not_ends, barred_as, behind_oracles, block_is, declarations_are, end_plain, front_not_ends, process_plain}
use Rattle.cv_oracle_laws.proofs.Regions.{EndNone, Ends}

stops : (rest : List Token) → Ends rest → (j : ℕ) → declarations_end_from j (rest ++ end_token 0 ∷ []) ≡ j
unfolding declarations_end_from
stops [] e j = refl
stops (t ∷ rest) e j = stops_at t (rest ++ end_token 0 ∷ []) e j

none_found : (depth k : ℕ) (rest : List Token) → NotEnds rest → has_process depth rest ≡ false → process_from depth k (rest ++ end_token 0 ∷ []) ≡ k + length rest
unfolding process_from
none_found depth k [] n h = let here : k ≡ k + 0 = omega arith in here
none_found depth k (t ∷ rest) (m, n) h =
    let p = or_parts (is_process depth t.text) (has_process (open_behind depth t.text) rest) h in
    let there : k + 1 + length rest ≡ k + suc (length rest) = omega arith in
    (λ i. if m i then k else (if p.0 i then k + 1 else process_from (open_behind depth t.text) (k + 1) (rest ++ end_token 0 ∷ []))) ∙ none_found (open_behind depth t.text) (k + 1) rest n p.1 ∙ there

module _ (ts : List Token) (o : Token) (ds rest : List Token) (all : map plain ts ≡ (o ∷ ds ++ rest) ++ end_token 0 ∷ []) (ends : NotEnds (o ∷ ds ++ rest)) (first : Is o (codes "oracles"))
    (none_ends : EndNone ds) (ending : Ends rest) (wordless : has_process 0 rest ≡ false) where
  at_rest : map plain ts ≡ (o ∷ ds) ++ (rest ++ end_token 0 ∷ [])
  at_rest = all ∙ append_assoc (o ∷ ds) rest (end_token 0 ∷ [])

  ends_ds : NotEnds ds
  ends_ds = front_not_ends ds rest ends.1

  ends_rest : NotEnds rest
  ends_rest = back_not_ends ds rest ends.1

  end_is : declarations_end ts ≡ suc (length ds)
  end_is =
      let n : 1 + length ds ≡ suc (length ds) = omega arith in
      end_plain 0 ts ∙ ap (declarations_end_from 0) at_rest ∙ behind_oracles o (ds ++ (rest ++ end_token 0 ∷ [])) ends.0 first ∙ end_before 1 ds (rest ++ end_token 0 ∷ []) ends_ds none_ends (stops rest ending) ∙ n

  begin_is : process_at ts (suc (length ds)) ≡ suc (length ds) + length rest
  begin_is =
      process_plain 0 (suc (length ds)) (drop (suc (length ds)) ts)
      ∙ ap (process_from 0 (suc (length ds))) (sym (drop-map plain (suc (length ds)) ts) ∙ ap (drop (suc (length ds))) at_rest ∙ drop-append_seam (o ∷ ds) (rest ++ end_token 0 ∷ []))
      ∙ none_found 0 (suc (length ds)) rest ends_rest wordless

  last_is : length ts - 1 ≡ suc (length ds) + length rest
  last_is =
      let a = length-map ts plain in
      let b : length (map plain ts) ≡ length ((o ∷ ds) ++ (rest ++ end_token 0 ∷ [])) = ap length at_rest in
      let c = length-append (o ∷ ds) (rest ++ end_token 0 ∷ []) in
      let d = length_push rest (end_token 0) in
      omega arith

  pub wordless_file : map plain (file_for ts) ≡ (map (barred_as Declarations) ds ++ map in_block rest) ++ end_token 0 ∷ []
  unfolding oracles_from written_from
  wordless_file =
      let e = suc (length ds) in
      let b = suc (length ds) + length rest in
      let m : min e 1 ≡ 1 = omega arith in
      let n : b - b ≡ 0 = omega arith in
      let k : b - e ≡ length rest = omega arith in
      let l : e - 1 ≡ length ds = omega arith in
      let A = kept_from Declarations ts 1 (length ds) in
      let C = kept_from Block ts e (length rest) in
      ap (λ x. map plain (parts ts x (process_at ts x) (length ts - 1))) end_is
      ∙ (λ i. map plain (parts ts e (begin_is i) (last_is i)))
      ∙ (λ i. map plain (kept_from Declarations ts (m i) (e - m i) ++ declaration ts e (oracles_from ts (at_start b) b (n i) []) ++ kept_from Block ts e (k i) ++ written_from ts (at_start b) b (n i) ++ end_token b ∷ []))
      ∙ (λ i. map plain (append-nil (append-nil (kept_from Declarations ts 1 (l i)) i ++ C) i ++ end_token b ∷ []))
      ∙ map-append plain (A ++ C) (end_token b ∷ [])
      ∙ ap (λ x. x ++ end_token 0 ∷ []) (map-append plain A C ∙ (λ i. declarations_are ts (o ∷ []) ds (rest ++ end_token 0 ∷ []) at_rest ends_ds i ++ block_is ts (o ∷ ds) rest (end_token 0 ∷ []) at_rest ends_rest i))
