-- A head, token by token.
use Rattle.std.proofs.Common.{◌≡◌, ℕ, ◌+◌, ◌<◌, ◌≤◌, ◌⊎◌, inl, inr, Bool, true, false, if◌then◌else◌, List, codes, length, drop, Option, Some, None, Result, Ok, Err, refl, ap, sym, ◌∙◌, arith}
use Rattle.std.specs.Str.{bytes_eq}
use Rattle.std.proofs.lemmas.List.{at_drop_all, drop_more}
use Rattle.cv_lex.specs.declared.TokenKind.{TokenKind}
use Rattle.cv_lex.specs.Lexis.{Token, end_token}
use Rattle.cv_lex.specs.View.{token_at}
use Rattle.cv_library.specs.declared.heads.Awaited.{Awaited}
use Rattle.cv_library.specs.declared.heads.Awaited.TheVariants.{Name, Opening, First, Behind, Next, Nothing}
use Rattle.cv_library.specs.Heads.{awaited_behind, go_on, head_from, is_nothing, only_if}
use Rattle.cv_library.specs.Words.{is_id}

module _ (ts : List Token) (k : ℕ) (a : Awaited) (kind : TokenKind) (text : List ℕ) (kind_is : kind ≡ (token_at ts k).kind) (text_is : text ≡ (token_at ts k).text) (below : k < length ts) where
  abbrev behind : Awaited → Result ℕ ℕ
  behind b = head_from b (k + 1) (drop (k + 1) ts)

  turn : (o : Option Awaited) → o ≡ awaited_behind a kind text → head_from a k (drop k ts) ≡ go_on behind k o
  unfolding head_from
  turn o e =
      ap (head_from a k) (drop_more ts k (end_token 0) below)
      ∙ (λ i. go_on behind k (awaited_behind a (sym kind_is i) (sym text_is i)))
      ∙ ap (go_on behind k) (sym e)

  pub head_stops : None ≡ awaited_behind a kind text → head_from a k (drop k ts) ≡ Err k
  head_stops e = turn None e

  pub head_ends : (b : Awaited) → Some b ≡ awaited_behind a kind text → true ≡ is_nothing b → head_from a k (drop k ts) ≡ Ok (k + 1)
  head_ends b e t = turn (Some b) e ∙ ap (λ x. if x then Ok (k + 1) else behind b) (sym t)

  pub head_goes : (b : Awaited) → Some b ≡ awaited_behind a kind text → false ≡ is_nothing b → head_from a k (drop k ts) ≡ head_from b (k + 1) (drop (k + 1) ts)
  head_goes b e t = turn (Some b) e ∙ ap (λ x. if x then Ok (k + 1) else behind b) (sym t)

pub head_over : (ts : List Token) (k : ℕ) (a : Awaited) → length ts ≤ k → head_from a k (drop k ts) ≡ Err k
unfolding head_from
head_over ts k a h = at_drop_all (head_from a k) ts k h

-- how many tokens of a head stand before what is awaited, at least
abbrev pub least : Awaited → ℕ
least Name = 1
least Opening = 2
least First = 3
least Behind = 3
least Next = 3
least Nothing = 4

by_test : (t : Bool) (x b : Awaited) → Some b ≡ only_if t x → b ≡ x
by_test true x b e = cc
by_test false x b e = absurd (cc)

by_tests : (t u : Bool) (x b : Awaited) → Some b ≡ (if t then Some Nothing else only_if u x) → (b ≡ Nothing) ⊎ (b ≡ x)
by_tests true u x b e = inl (cc)
by_tests false u x b e = inr (by_test u x b e)

pub least_more : (a b : Awaited) (kind : TokenKind) (text : List ℕ) → Some b ≡ awaited_behind a kind text → least b ≤ least a + 1
least_more Name b kind text e = omega (arith, ap least (by_test (is_id kind text) Opening b e))
least_more Opening b kind text e = omega (arith, ap least (by_test (bytes_eq text (codes "(")) First b e))
least_more First b kind text e = elim (by_tests (bytes_eq text (codes ")")) (is_id kind text) Behind b e) [ inl f ↦ omega (arith, ap least f) | inr f ↦ omega (arith, ap least f) ]
least_more Behind b kind text e = elim (by_tests (bytes_eq text (codes ")")) (bytes_eq text (codes ",")) Next b e) [ inl f ↦ omega (arith, ap least f) | inr f ↦ omega (arith, ap least f) ]
least_more Next b kind text e = omega (arith, ap least (by_test (is_id kind text) Behind b e))
least_more Nothing b kind text e = absurd (cc)

pub least_whole : (b : Awaited) → true ≡ is_nothing b → 4 ≡ least b
least_whole Nothing e = refl
least_whole Name e = absurd (cc)
least_whole Opening e = absurd (cc)
least_whole First e = absurd (cc)
least_whole Behind e = absurd (cc)
least_whole Next e = absurd (cc)
