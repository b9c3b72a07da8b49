use Rattle.std.proofs.Common.{◌≡◌, ℕ, ◌-◌, List, [], ◌∷◌, ◌++◌, length, min, ap, ◌∙◌}
use Rattle.cv_lex.specs.Lexis.{Token, end_token}
use Rattle.cv_library.proofs.Adding.{adds_both}
use Rattle.cv_oracles.specs.declared.region.Region.TheVariants.{Declarations, Block}
use Rattle.cv_oracles.specs.Readings.{at_start}
use Rattle.cv_oracles.specs.Translations.{declaration, declarations_end, file_for, kept_from, oracles_from, parts, process_at, written_from}
use Rattle.cv_oracles.proofs.source.translate.Goals as goal

pub returns : goal.returns
returns c =
    let ts = c.args.tokens.now in
    let end = c.declarations_end-end.result in
    let begin = c.process_begin-begin.result in
    let last = c.len-last.result - 1 in
    let first : c.min.result ≡ min end 1 = c.min.ensures in
    let oracles : c.as_slice.result.now ≡ oracles_from ts (at_start begin) begin (last - begin) [] = c.as_slice.ensures.value ∙ c.in_ok-found.ensures in
    let put = adds_both _ _ _ _ _ (adds_both _ _ _ _ _ (adds_both _ _ _ _ _ c.in_ok-put_kept.ensures c.in_ok-put_declaration.ensures) c.in_ok-put_kept-2.ensures) c.in_ok-put_process.ensures in
    let end_is : end ≡ declarations_end ts = c.declarations_end-end.ensures.value in
    let begin_is : begin ≡ process_at ts (declarations_end ts) = c.process_begin-begin.ensures.value ∙ ap (process_at ts) end_is in
    let last_is : last ≡ length ts - 1 = ap (λ n. n - 1) c.len-last.ensures.value in
    put [] last c.new-out.ensures
    ∙ (λ i. kept_from Declarations ts (first i) (end - first i) ++ declaration ts end (oracles i) ++ kept_from Block ts end (begin - end) ++ written_from ts (at_start begin) begin (last - begin) ++ end_token last ∷ [])
    ∙ (λ i. parts ts (end_is i) (begin_is i) (last_is i))
