-- For crates above: what stands at each place of a list of tokens.
use Rattle.std.proofs.Common.{◌≡◌, ℕ, ◌+◌, ◌<◌, inl, inr, List, [], ◌∷◌, length, ap, sym, ◌∙◌, arith, subst}
use Rattle.std.proofs.lemmas.Bool.{cases_lt}
use Rattle.std.proofs.lemmas.List.{length_push, get_or_push, get_or_append_left}
use Rattle.std.proofs.lemmas.List.Elements.{All-get_or}
use Rattle.cv_lex.specs.declared.TokenKind.TheVariants.{End}
use Rattle.cv_lex.specs.Lexis.{Token, IsToken, end_token}
use Rattle.cv_lex.specs.View.{token_at, AreTokens}
use Rattle.cv_lex.proofs.Pieces.{token_not_end}

module _ (ts : List Token) (are : AreTokens ts) where
  tokens_length : length ts ≡ length are.front + 1
  tokens_length = ap length are.all ∙ length_push are.front (end_token are.end)

  -- there is an end token
  pub tokens_some : 0 < length ts
  tokens_some = omega (arith, tokens_length)

  -- the last token is the end token
  pub last_token : (k : ℕ) → k + 1 ≡ length ts → token_at ts k ≡ end_token are.end
  last_token k h =
      let here : length are.front ≡ k = omega (arith, tokens_length) in
      ap (λ l. token_at l k) are.all ∙ get_or_push are.front (end_token are.end) (end_token 0) k here

  -- each other token is one of the lexis
  pub inner_token : (k : ℕ) → k + 1 < length ts → IsToken (token_at ts k).kind (token_at ts k).text
  inner_token k h =
      let before : k < length are.front = omega (arith, tokens_length) in
      let same : token_at ts k ≡ token_at are.front k = ap (λ l. token_at l k) are.all ∙ get_or_append_left are.front (end_token are.end ∷ []) (end_token 0) k before in
      let P : Token → Type 0 = λ t. IsToken t.kind t.text in
      subst P (sym same) (All-get_or P are.front k (end_token 0) before are.each)

  -- behind a token of another kind than End stands one more
  pub one_more : (k : ℕ) → k < length ts → ((token_at ts k).kind ≡ End → ⊥) → k + 1 < length ts
  one_more k h other =
      elim (cases_lt (k + 1) (length ts)) [
        | inl more ↦ more
        | inr last ↦ let at_end : k + 1 ≡ length ts = omega arith in absurd (other (ap (λ (t : Token). t.kind) (last_token k at_end)))
      ]

  -- a token of kind End is the last
  pub end_is_last : (k : ℕ) → k < length ts → (token_at ts k).kind ≡ End → k + 1 ≡ length ts
  end_is_last k h e =
      elim (cases_lt (k + 1) (length ts)) [
        | inl more ↦ absurd (token_not_end (token_at ts k).text (subst (λ kind. IsToken kind (token_at ts k).text) e (inner_token k more)))
        | inr last ↦ omega arith
      ]
