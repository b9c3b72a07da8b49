-- The pass over a script's tokens, token by token.
use Rattle.std.proofs.Common.{◌≡◌, ℕ, suc, ◌+◌, ◌-◌, ◌<◌, ◌≤◌, List, [], ◌∷◌, ◌++◌, length, drop, take, ap, sym, ◌∙◌, arith, append_assoc}
use Rattle.std.proofs.lemmas.List.{append-nil, drop_more, length_push}
use Rattle.cv_lex.specs.declared.TokenKind.{TokenKind}
use Rattle.cv_lex.specs.Lexis.{Token, end_token}
use Rattle.cv_lex.specs.View.{token_at}
use Rattle.cv_parse_notation.specs.declared.sign.Sign.{Sign}
use Rattle.cv_parse_tables.specs.declared.terminals.pass.Counts.{Counts}
use Rattle.cv_parse_tables.specs.terminals.ScriptSigns.{between, script_signs, with_word, with_words}
use Rattle.cv_parse_tables.specs.terminals.Signs.{Signed, Step, no_counts, join, step_before, first_text, signs_from}
use Rattle.cv_parse_tables.proofs.terminals.Walk.{small, signs_from_cons, kept_in_front}

-- the tokens between two places, one by one
pub between_cons : (ts : List Token) (k to : ℕ) → k < to → to < length ts → between k to ts ≡ token_at ts k ∷ between (k + 1) to ts
between_cons ts k to h l =
    ap (take (to - k)) (drop_more ts k (end_token 0) (omega arith))
    ∙ ap (λ n. take n (token_at ts k ∷ drop (k + 1) ts)) (let e : to - k ≡ suc (to - (k + 1)) = omega arith in e)

pub between_nil : (ts : List Token) (k to : ℕ) → to ≤ k → between k to ts ≡ []
between_nil ts k to h = ap (λ n. take n (drop k ts)) (let e : to - k ≡ 0 = omega arith in e)

pub first_between : (ts : List Token) (k to : ℕ) → k < to → to < length ts → first_text (between k to ts) ≡ (token_at ts k).text
first_between ts k to h l = ap first_text (between_cons ts k to h l)

pub first_none : (ts : List Token) (k to : ℕ) → to ≤ k → first_text (between k to ts) ≡ []
first_none ts k to h = ap first_text (between_nil ts k to h)

-- From one token on, with names that were there, the pass is done so far: what is left gives the rest.
pub record IsWorded (start : List (List ℕ)) (ts : List Token) (from to : ℕ) (signs : List Sign) (names : List (List ℕ)) (counts : Counts) (k : ℕ) : Type 0 where
  pub plain : List Sign
  pub all : signs_from start no_counts (between from to ts) ≡ join plain (signs_from names counts (between k to ts))
  pub words : (rest : List Sign) → with_words (between from to ts) (plain ++ rest) ≡ signs ++ with_words (between k to ts) rest
  pub behind : (more : List (List ℕ)) × (names ≡ start ++ more)
  pub names_few : length names + from ≤ length start + k
  pub finds_few : counts.finds + from ≤ k
  pub unnamed_few : counts.unnamed + from ≤ k
  pub count : from + length signs ≡ k

-- also behind one more token
pub worded_step_keeps : (start : List (List ℕ)) (ts : List Token) (from to : ℕ) (signs : List Sign) (names : List (List ℕ)) (counts : Counts) (k : ℕ) → IsWorded start ts from to signs names counts k → (w : TokenKind) (text next : List ℕ) (s : Sign) (names' : List (List ℕ)) (counts' : Counts) → step_before names counts w text next ≡ record { signs = s ∷ []; names = names'; counts = counts' } → take (length start) names' ≡ start
worded_step_keeps start ts from to signs names counts k r w text next s names' counts' e =
    let more = (small names counts w text next).names_behind in
    kept_in_front start names' (r.behind.0 ++ more.0) (ap (λ (x : Step). x.names) (sym e) ∙ (more.1 ∙ (ap (λ l. l ++ more.0) r.behind.1 ∙ append_assoc start r.behind.0 more.0)))

-- one more token, and one more sign
pub worded_push : (start : List (List ℕ)) (ts : List Token) (from to : ℕ) (signs : List Sign) (names : List (List ℕ)) (counts : Counts) (k : ℕ) → IsWorded start ts from to signs names counts k → k < to → to < length ts → (w : TokenKind) (text next : List ℕ) → w ≡ (token_at ts k).kind → text ≡ (token_at ts k).text → next ≡ first_text (between (k + 1) to ts) → (s : Sign) (names' : List (List ℕ)) (counts' : Counts) → step_before names counts w text next ≡ record { signs = s ∷ []; names = names'; counts = counts' } → (signs' : List Sign) → signs' ≡ signs ++ with_word text s ∷ [] → IsWorded start ts from to signs' names' counts' (k + 1)
worded_push start ts from to signs names counts k r h l w text next kind_is text_is next_is s names' counts' e signs' pushed =
    let t : Token = token_at ts k in
    let rest : List Token = between (k + 1) to ts in
    let here : between k to ts ≡ t ∷ rest = between_cons ts k to h l in
    let step : step_before names counts t.kind t.text (first_text rest) ≡ record { signs = s ∷ []; names = names'; counts = counts' } =
    ap (λ v. step_before names counts v t.text (first_text rest)) (sym kind_is) ∙ ap (λ v. step_before names counts w v (first_text rest)) (sym text_is) ∙ ap (step_before names counts w text) (sym next_is) ∙ e
    in
    let few = small names counts t.kind t.text (first_text rest) in
    let same_names : length (step_before names counts t.kind t.text (first_text rest)).names ≡ length names' = ap (λ (x : Step). length x.names) step in
    let same_finds : (step_before names counts t.kind t.text (first_text rest)).counts.finds ≡ counts'.finds = ap (λ (x : Step). x.counts.finds) step in
    let same_unnamed : (step_before names counts t.kind t.text (first_text rest)).counts.unnamed ≡ counts'.unnamed = ap (λ (x : Step). x.counts.unnamed) step in
    record {
      plain = r.plain ++ s ∷ [];
      all = r.all ∙ ap (λ z. join r.plain (signs_from names counts z)) here ∙ ap (join r.plain) (signs_from_cons names counts t rest (record { signs = s ∷ []; names = names'; counts = counts' }) step) ∙ ap (λ z. record { signs = z; names = (signs_from names' counts' rest).names }) (sym (append_assoc r.plain (s ∷ []) (signs_from names' counts' rest).signs));
      words = λ more. ap (with_words (between from to ts)) (append_assoc r.plain (s ∷ []) more) ∙ (r.words (s ∷ more) ∙ (ap (λ z. signs ++ with_words z (s ∷ more)) here ∙ (ap (λ v. signs ++ with_word v s ∷ with_words rest more) (sym text_is) ∙ (sym (append_assoc signs (with_word text s ∷ []) (with_words rest more)) ∙ ap (λ z. z ++ with_words rest more) (sym pushed)))));
      behind = (
        r.behind.0 ++ few.names_behind.0,
        ap (λ (x : Step). x.names) (sym step) ∙ (few.names_behind.1 ∙ (ap (λ z. z ++ few.names_behind.0) r.behind.1 ∙ append_assoc start r.behind.0 few.names_behind.0)),
      );
      names_few = omega (arith, few.names_more, r.names_few, same_names);
      finds_few = omega (arith, few.finds_more, r.finds_few, same_finds);
      unnamed_few = omega (arith, few.unnamed_more, r.unnamed_few, same_unnamed);
      count = (let more = ap length pushed ∙ length_push signs (with_word text s) in let before = r.count in omega arith);
    }

-- behind the last token the pass is over
pub worded_last : (start : List (List ℕ)) (ts : List Token) (from to : ℕ) (signs : List Sign) (names : List (List ℕ)) (counts : Counts) (k : ℕ) → IsWorded start ts from to signs names counts k → to ≤ k → script_signs start (between from to ts) ≡ record { signs = signs; names = names }
unfolding signs_from
worded_last start ts from to signs names counts k r h =
    let none : between k to ts ≡ [] = between_nil ts k to h in
    let plain : signs_from start no_counts (between from to ts) ≡ record { signs = r.plain ++ []; names = names } = r.all ∙ ap (λ z. join r.plain (signs_from names counts z)) none in
    let worded : with_words (between from to ts) (r.plain ++ []) ≡ signs = r.words [] ∙ (ap (λ z. signs ++ with_words z []) none ∙ append-nil signs) in
    ap (λ (z : Signed). record { signs = with_words (between from to ts) z.signs; names = z.names }) plain ∙ ap (λ z. record { signs = z; names = names }) worded

pub ruleset first = (first_between, first_none)
