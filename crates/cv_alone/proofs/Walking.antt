-- Tokens one after another, as they are read and left out.
use Rattle.std.proofs.Common.{◌≡◌, ℕ, ◌+◌, ◌-◌, ◌<◌, ◌≤◌, ◌==◌, if◌then◌else◌, List, [], length, drop, refl, ap, sym, ◌∙◌, arith, Bool, codes}
use Rattle.std.specs.Str.{bytes_eq}
use Rattle.std.proofs.lemmas.Bool.{cond_both}
use Rattle.std.proofs.lemmas.List.{at_drop_all, drop_more}
use Rattle.cv_lex.specs.Lexis.{Token, end_token}
use Rattle.cv_lex.specs.View.{token_at}
use Rattle.cv_alone.specs.declared.parts.Part.{Part}
use Rattle.cv_alone.specs.declared.parts.Part.TheVariants.{Outside, Query, Block}
use Rattle.cv_alone.specs.declared.parts.Reading.{Reading}
use Rattle.cv_alone.specs.Parts.{at_start, at_token, behind_all, behind_token, begins_query, block_behind, is_left_out, tokens_left_out, left_out_from, part_at, part_behind, put_if, queries_in}
use Rattle.cv_alone.specs.Alone.{with_spaces}
use Rattle.cv_alone.specs.Sizes.{depth_of}
use Rattle.cv_alone.proofs.Spacing.{length_spaced, of, spaced_more, spaced_no_token}

-- how much is counted

depth_at : (p : Part) (text : List ℕ) → depth_of (part_at p text) ≡ depth_of p
depth_at Outside text =
    cond_both (bytes_eq text (codes "query")) Query (if bytes_eq text (codes "proof") then Block 0 else Outside) (λ p. depth_of p ≡ 0) (λ _. refl)
    (λ _. cond_both (bytes_eq text (codes "proof")) (Block 0) Outside (λ p. depth_of p ≡ 0) (λ _. refl) (λ _. refl))
depth_at Query text = refl
depth_at (Block depth) text = refl

block_less : (depth : ℕ) → depth_of (block_behind depth) ≤ depth
block_less depth = cond_both (depth == 1) Outside (Block (depth - 1)) (λ p. depth_of p ≤ depth) (λ _. omega arith) (λ _. omega arith)

depth_behind : (p : Part) (text : List ℕ) → depth_of (part_behind p text) ≤ depth_of p + 1
depth_behind Outside text = omega arith
depth_behind Query text = cond_both (bytes_eq text (codes ".")) Outside Query (λ p. depth_of p ≤ 1) (λ _. omega arith) (λ _. omega arith)
depth_behind (Block depth) text =
    cond_both (bytes_eq text (codes "{")) (Block (depth + 1)) (if bytes_eq text (codes "}") then block_behind depth else Block depth) (λ p. depth_of p ≤ depth + 1)
    (λ _. omega arith)
    (λ _. cond_both (bytes_eq text (codes "}")) (block_behind depth) (Block depth) (λ p. depth_of p ≤ depth + 1) (λ _. omega (arith, block_less depth)) (λ _. omega arith))

few_queries : (r : Reading) (text : List ℕ) → (at_token r text).queries ≤ r.queries + 1
few_queries r text = cond_both (begins_query r.part text) (r.queries + 1) r.queries (λ n. n ≤ r.queries + 1) (λ _. omega arith) (λ _. omega arith)

-- behind so many tokens so many braces are open at most, and so many queries have begun
pub record IsSmall (r : Reading) (k : ℕ) : Type 0 where
  pub depth : depth_of r.part ≤ k
  pub queries : r.queries ≤ k

pub small_none : IsSmall at_start 0
small_none = record { depth = omega arith; queries = omega arith }

-- so many tokens are read
pub record IsRead (ts : List Token) (r : Reading) (k : ℕ) : Type 0 where
  pub rest : behind_all r (drop k ts) ≡ behind_all at_start ts
  pub small : IsSmall r k

pub read_none : (ts : List Token) → IsRead ts at_start 0
read_none ts = record { rest = refl; small = small_none }

-- of so many tokens those are left out that are to be
pub record IsLeft (number : ℕ) (ts : List Token) (old : List ℕ) (r : Reading) (bytes : List ℕ) (k : ℕ) : Type 0 where
  pub same_length : length bytes ≡ length old
  pub rest : with_spaces (of (left_out_from number r (drop k ts))) bytes ≡ with_spaces (of (tokens_left_out number ts)) old
  pub small : IsSmall r k

pub left_none : (number : ℕ) (ts : List Token) (old : List ℕ) → IsLeft number ts old at_start old 0
left_none number ts old = record { same_length = refl; rest = refl; small = small_none }

-- the reading behind a token
module _ (ts : List Token) (r here next : Reading) (k : ℕ) (text : List ℕ) (here_is : here ≡ at_token r text) (next_is : next ≡ behind_token here text) (text_is : text ≡ (token_at ts k).text) where
  pub depth_here : IsSmall r k → depth_of here.part ≤ k
  depth_here small = omega (arith, small.depth, ap (λ (h : Reading). depth_of h.part) here_is, depth_at r.part text)

  small_more : IsSmall r k → IsSmall next (k + 1)
  small_more small =
      let part : next.part ≡ part_behind here.part text = ap (λ (n : Reading). n.part) next_is in
      let queries : next.queries ≡ (at_token r text).queries = ap (λ (n : Reading). n.queries) next_is ∙ ap (λ (n : Reading). n.queries) here_is in
      record {
        depth = omega (arith, ap depth_of part, depth_behind here.part text, depth_here small);
        queries = omega (arith, queries, few_queries r text, small.queries);
      }

  here_at : here ≡ at_token r (token_at ts k).text
  here_at = here_is ∙ ap (at_token r) text_is

  next_at : next ≡ behind_token (at_token r (token_at ts k).text) (token_at ts k).text
  next_at = next_is ∙ (λ i. behind_token (here_at i) (text_is i))

  pub read_more : k < length ts → IsRead ts r k → IsRead ts next (k + 1)
  unfolding behind_all
  read_more below read = record {
    rest = ap (λ n. behind_all n (drop (k + 1) ts)) next_at ∙ sym (ap (behind_all r) (drop_more ts k (end_token 0) below)) ∙ read.rest;
    small = small_more read.small;
  }

  pub left_more : (number : ℕ) (old bytes more : List ℕ) (out : Bool) → k < length ts → IsLeft number ts old r bytes k → out ≡ is_left_out number here → more ≡ with_spaces (of (put_if out (token_at ts k) [])) bytes → IsLeft number ts old next more (k + 1)
  unfolding left_out_from
  left_more number old bytes more out below left out_is more_is =
      let t = token_at ts k in
      let rest = left_out_from number next (drop (k + 1) ts) in
      let here_out : put_if out t rest ≡ left_out_from number r (drop k ts) =
      (λ i. put_if ((out_is ∙ ap (is_left_out number) here_at) i) t (left_out_from number (next_at i) (drop (k + 1) ts)))
      ∙ sym (ap (left_out_from number r) (drop_more ts k (end_token 0) below))
      in
      record {
        same_length = ap length more_is ∙ length_spaced (of (put_if out t [])) 0 bytes ∙ left.same_length;
        rest = ap (with_spaces (of rest)) more_is ∙ sym (spaced_more out t rest bytes) ∙ ap (λ l. with_spaces (of l) bytes) here_out ∙ left.rest;
        small = small_more left.small;
      }

pub read_all : (ts : List Token) (r : Reading) (k : ℕ) → IsRead ts r k → length ts ≤ k → r.queries ≡ queries_in ts
unfolding behind_all
read_all ts r k read past = ap (λ (n : Reading). n.queries) (sym (at_drop_all (behind_all r) ts k past) ∙ read.rest)

pub left_all : (number : ℕ) (ts : List Token) (old : List ℕ) (r : Reading) (bytes : List ℕ) (k : ℕ) → IsLeft number ts old r bytes k → length ts ≤ k → bytes ≡ with_spaces (of (tokens_left_out number ts)) old
unfolding left_out_from
left_all number ts old r bytes k left past =
    sym (spaced_no_token bytes) ∙ ap (λ l. with_spaces (of l) bytes) (sym (at_drop_all (left_out_from number r) ts k past)) ∙ left.rest
