-- The tokens of a file as they are read, one for each token.
use Rattle.std.proofs.Common.{◌≡◌, ℕ, zero, suc, ◌+◌, ◌-◌, ◌<◌, ◌≤◌, Bool, true, false, if◌then◌else◌, List, [], ◌∷◌, ◌++◌, length, drop, refl, ap, sym, ◌∙◌, subst, arith}
use Rattle.std.specs.Prelude.{All}
use Rattle.std.proofs.lemmas.List.{drop_more}
use Rattle.std.proofs.lemmas.List.Elements.{All-nil, All-cons, All-head, All-tail}
use Rattle.cv_lex.specs.declared.TokenKind.{TokenKind}
use Rattle.cv_lex.specs.declared.TokenKind.TheVariants as kind
use Rattle.cv_lex.specs.Lexis.{Token, IsToken, end_token}
use Rattle.cv_lex.specs.View.{token_at, AreTokens}
use Rattle.cv_parse_notation.specs.declared.sign.Sign.{Sign}
use Rattle.cv_parse_tables.specs.declared.terminals.pass.Counts.{Counts}
use Rattle.cv_parse_tables.specs.terminals.Braces.{is_read, semicolon, read_at, open_behind, read_from, file_tokens, opens, closes}
use Rattle.cv_parse_tables.specs.terminals.Signs.{no_counts, step_before, signs_from}
use Rattle.cv_parse_tables.proofs.terminals.Walk.{IsReached, no_end_yet, reached_push, reached_last}

-- there are as many
pub length_read_from : (depth : ℕ) (ts : List Token) → length (read_from depth ts) ≡ length ts
unfolding read_from
length_read_from depth [] = refl
length_read_from depth (t ∷ ts) = ap suc (length_read_from (open_behind depth t.text) ts)

-- the token that is read is one of the lexis

abbrev IsLexed : Token → Type 0
IsLexed t = IsToken t.kind t.text

read_lexed : (depth : ℕ) (t : Token) → IsLexed t → IsLexed (read_at depth t)
read_lexed zero t is = is
read_lexed (suc depth) t is = elim (is_read t.kind t.text) as (λ b. IsLexed (if b then t else semicolon t.offset)) [ true ↦ is | false ↦ refl ]

-- the end is read as it is
end_read : (depth end : ℕ) → read_at depth (end_token end) ≡ end_token end
end_read zero end = refl
end_read (suc depth) end = refl

each_read : (depth : ℕ) (front : List Token) → All IsLexed front → All IsLexed (read_from depth front)
unfolding read_from
each_read depth [] each = All-nil IsLexed
each_read depth (t ∷ front) each =
    All-cons IsLexed (read_at depth t) (read_from (open_behind depth t.text) front) (read_lexed depth t (All-head IsLexed t front each)) (each_read (open_behind depth t.text) front (All-tail IsLexed t front each))

all_read : (depth : ℕ) (front : List Token) (end : ℕ) → read_from depth (front ++ end_token end ∷ []) ≡ read_from depth front ++ end_token end ∷ []
unfolding read_from
all_read depth [] end = ap (λ t. t ∷ []) (end_read depth end)
all_read depth (t ∷ front) end = ap (λ l. read_at depth t ∷ l) (all_read (open_behind depth t.text) front end)

pub are_read : (ts : List Token) → AreTokens ts → AreTokens (file_tokens ts)
are_read ts are = record {
  front = read_from 0 are.front;
  end = are.end;
  each = each_read 0 are.front are.each;
  all = ap (read_from 0) are.all ∙ all_read 0 are.front are.end;
}

-- behind a text that opens no brace none is open, where none was
pub none_behind : (text : List ℕ) → opens text ≡ false → open_behind 0 text ≡ 0
none_behind text e = rw e (go (closes text) 0) where
  go : (b : Bool) (n : ℕ) → (if b then n else n) ≡ n
  go true n = refl
  go false n = refl

-- without braces each token is read as it stands
pub plain_read : (ts : List Token) → All (λ t. opens t.text ≡ false) ts → file_tokens ts ≡ ts
unfolding read_from
plain_read [] none = refl
plain_read (t ∷ ts) none =
    let here : open_behind 0 t.text ≡ 0 = none_behind t.text (All-head (λ t. opens t.text ≡ false) t ts none) in
    ap (λ l. t ∷ l) (ap (λ d. read_from d ts) here ∙ plain_read ts (All-tail (λ t. opens t.text ≡ false) t ts none))

-- What is left of the tokens is read with so many braces open.
pub record IsAhead (ts : List Token) (k depth : ℕ) : Type 0 where
  pub left : drop k (file_tokens ts) ≡ read_from depth (drop k ts)
  pub few : depth ≤ k

same_head : (t u : Token) (ts us : List Token) → t ∷ ts ≡ u ∷ us → t ≡ u
same_head t u ts us e = cc

same_tail : (t u : Token) (ts us : List Token) → t ∷ ts ≡ u ∷ us → ts ≡ us
same_tail t u ts us e = cc

module _ (ts : List Token) (k depth : ℕ) (ahead : IsAhead ts k depth) (below : k < length ts) where
  both : token_at (file_tokens ts) k ∷ drop (k + 1) (file_tokens ts) ≡ read_at depth (token_at ts k) ∷ read_from (open_behind depth (token_at ts k).text) (drop (k + 1) ts)
  unfolding read_from
  both =
      let within : k < length (file_tokens ts) = omega (arith, length_read_from 0 ts) in
      sym (drop_more (file_tokens ts) k (end_token 0) within) ∙ (ahead.left ∙ ap (read_from depth) (drop_more ts k (end_token 0) below))

  -- the token there
  pub token_read : token_at (file_tokens ts) k ≡ read_at depth (token_at ts k)
  token_read = same_head _ _ _ _ both

  open_more : open_behind depth (token_at ts k).text ≤ k + 1
  open_more =
      let few = ahead.few in
      elim (opens (token_at ts k).text) as (λ b. (if b then suc depth else (if closes (token_at ts k).text then depth - 1 else depth)) ≤ k + 1) [
        | true ↦ omega arith
        | false ↦ elim (closes (token_at ts k).text) as (λ b. (if b then depth - 1 else depth) ≤ k + 1) [ true ↦ omega arith | false ↦ omega arith ]
      ]

  -- and what is left behind it
  pub ahead_next : IsAhead ts (k + 1) (open_behind depth (token_at ts k).text)
  ahead_next = record { left = same_tail _ _ _ _ both; few = open_more }

-- The tokens of a file are read and signed so far.
pub record IsSigned (start : List (List ℕ)) (ts : List Token) (signs : List Sign) (names : List (List ℕ)) (counts : Counts) (depth k : ℕ) : Type 0 where
  pub reached : IsReached start (file_tokens ts) 0 signs names counts k
  pub ahead : IsAhead ts k depth

module _ (start : List (List ℕ)) (ts : List Token) (signs : List Sign) (names : List (List ℕ)) (counts : Counts) (depth k : ℕ) (signed : IsSigned start ts signs names counts depth k) where
  -- the kind that is read before the end token is none of an end
  pub no_end_read : AreTokens ts → k + 1 < length ts → (w : TokenKind) → w ≡ (read_at depth (token_at ts k)).kind → w ≡ kind.End → ⊥
  no_end_read are h w e =
      let here = token_read ts k depth signed.ahead (omega arith) in
      no_end_yet (file_tokens ts) (are_read ts are) k (omega (arith, length_read_from 0 ts)) w (e ∙ ap (λ (t : Token). t.kind) (sym here))

  -- one more sign is pushed
  pub signed_push : k + 1 < length ts → (w : TokenKind) (text : List ℕ) → w ≡ (read_at depth (token_at ts k)).kind → text ≡ (read_at depth (token_at ts k)).text → (old : List ℕ) (behind : ℕ) → old ≡ (token_at ts k).text → behind ≡ open_behind depth old → (next : List ℕ) → next ≡ (read_at behind (token_at ts (k + 1))).text → (s : Sign) (names' : List (List ℕ)) (counts' : Counts) → step_before names counts w text next ≡ record { signs = s ∷ []; names = names'; counts = counts' } → (signs' : List Sign) → signs' ≡ signs ++ s ∷ [] → IsSigned start ts signs' names' counts' behind (k + 1)
  signed_push h w text kind_is text_is old behind old_is behind_is next next_is s names' counts' step signs' pushed =
      let same : behind ≡ open_behind depth (token_at ts k).text = behind_is ∙ ap (open_behind depth) old_is in
      let here = token_read ts k depth signed.ahead (omega arith) in
      let ahead : IsAhead ts (k + 1) behind = subst (IsAhead ts (k + 1)) (sym same) (ahead_next ts k depth signed.ahead (omega arith)) in
      let there = token_read ts (k + 1) behind ahead h in
      record {
        reached =
            reached_push start (file_tokens ts) 0 signs names counts k signed.reached (omega (arith, length_read_from 0 ts)) w text next
            (kind_is ∙ ap (λ (t : Token). t.kind) (sym here)) (text_is ∙ ap (λ (t : Token). t.text) (sym here)) (next_is ∙ ap (λ (t : Token). t.text) (sym there))
            s names' counts' step signs' pushed;
        ahead = ahead;
      }

  -- before the end token all is signed
  pub signed_last : AreTokens ts → k + 1 ≡ length ts → signs_from start no_counts (file_tokens ts) ≡ record { signs = signs; names = names }
  signed_last are h = reached_last start (file_tokens ts) (are_read ts are) 0 signs names counts k signed.reached (omega (arith, length_read_from 0 ts))
