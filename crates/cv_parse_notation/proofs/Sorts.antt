-- Both laws for all sorts of a table of rules that fits.
use Rattle.std.proofs.Common.{◌≡◌, ℕ, zero, suc, ◌<◌, Bool, true, false, ◌&&◌, not, List, length, Ok}
use Rattle.std.proofs.lemmas.Bool.{not-true}
use Rattle.cv_syntax_trees.proofs.lists.Tests.{and_first, and_second}
use Rattle.cv_syntax_trees.specs.Tree.{Tree}
use Rattle.cv_parse_notation.specs.declared.sign.Sign.{Sign}
use Rattle.cv_parse_notation.specs.Form.{Form}
use Rattle.cv_parse_notation.specs.Spells.{Kind, starts, next_is, may_vanish, is_steady, Use, IsSort, no_sort}
use Rattle.cv_parse_notation.specs.Reads.{Found, found, too_deep, read_sort}
use Rattle.cv_parse_notation.specs.Fits.{goes_on, within, fits, fitting}
use Rattle.cv_parse_notation.proofs.Lengths.{sort_lengths}
use Rattle.cv_parse_notation.proofs.Sound.{sort_sound}
use Rattle.cv_parse_notation.proofs.Complete.{complete, begins_with, within_next, outside_next}

-- the parts of the test
pub record Fitting {R σ : Type 0} (h t : σ → Kind → Bool) (rule : σ → Form R σ Tree) (s : σ) : Type 0 where
  pub fit : fits h t (rule s) ≡ true
  pub heads : within (starts h (rule s)) (h s) ≡ true
  pub tails : within (goes_on h t (rule s)) (t s) ≡ true
  pub stays : may_vanish (rule s) ≡ false
  pub steady : is_steady (rule s) ≡ true

pub parts : {R σ : Type 0} (h t : σ → Kind → Bool) (rule : σ → Form R σ Tree) (s : σ) → fitting h t rule s ≡ true → Fitting h t rule s
parts h t rule s e =
    let a = and_second (fits h t (rule s)) (within (starts h (rule s)) (h s) && (within (goes_on h t (rule s)) (t s) && (not (may_vanish (rule s)) && is_steady (rule s)))) e in
    let b = and_second (within (starts h (rule s)) (h s)) (within (goes_on h t (rule s)) (t s) && (not (may_vanish (rule s)) && is_steady (rule s))) a in
    let c = and_second (within (goes_on h t (rule s)) (t s)) (not (may_vanish (rule s)) && is_steady (rule s)) b in
    record {
      fit = and_first (fits h t (rule s)) (within (starts h (rule s)) (h s) && (within (goes_on h t (rule s)) (t s) && (not (may_vanish (rule s)) && is_steady (rule s)))) e;
      heads = and_first (within (starts h (rule s)) (h s)) (within (goes_on h t (rule s)) (t s) && (not (may_vanish (rule s)) && is_steady (rule s))) a;
      tails = and_first (within (goes_on h t (rule s)) (t s)) (not (may_vanish (rule s)) && is_steady (rule s)) b;
      stays = not-true (may_vanish (rule s)) (and_first (not (may_vanish (rule s))) (is_steady (rule s)) c);
      steady = and_second (not (may_vanish (rule s))) (is_steady (rule s)) c;
    }

module _ {R σ : Type 0} (h t : σ → Kind → Bool) (rule : σ → Form R σ Tree) (w : (s : σ) → fitting h t rule s ≡ true) where
  -- what is read is spelled so
  pub read_is_spelled : (n : ℕ) (s : σ) (ts : List Sign) (x : Found R Tree) → read_sort h rule n s ts ≡ Ok x → IsSort h rule n s ts x.value x.uses x.rest
  read_is_spelled n s ts x e = sort_sound h rule (λ s. (parts h t rule s (w s)).stays) (λ s. (parts h t rule s (w s)).steady) n s ts x e

  pub shorter : (n : ℕ) (s : σ) (ts : List Sign) (a : Tree) (us : List (Use R)) (rest : List Sign) → IsSort h rule n s ts a us rest → length rest < length ts
  shorter = sort_lengths h rule (λ s. (parts h t rule s (w s)).stays)

  pub begins : (n : ℕ) (s : σ) (ts : List Sign) (a : Tree) (us : List (Use R)) (rest : List Sign) → IsSort h rule n s ts a us rest → next_is (h s) ts ≡ true
  unfolding IsSort
  begins zero s ts a us rest d = let f = parts h t rule s (w s) in within_next (starts h (rule s)) (h s) f.heads ts (begins_with h false no_sort (λ s ts a us rest e. absurd e) (rule s) f.stays ts a us rest d)
  begins (suc n) s ts a us rest d = let f = parts h t rule s (w s) in within_next (starts h (rule s)) (h s) f.heads ts (begins_with h true (IsSort h rule n) (begins n) (rule s) f.stays ts a us rest d)

  -- what is spelled is read, before a token that can't go on
  pub spelled_is_read : (n : ℕ) (s : σ) (ts : List Sign) (a : Tree) (us : List (Use R)) (rest : List Sign) → IsSort h rule n s ts a us rest → next_is (t s) rest ≡ false → read_sort h rule n s ts ≡ found a us rest
  unfolding IsSort read_sort
  spelled_is_read zero s ts a us rest d n =
      let f = parts h t rule s (w s) in
      complete h t false no_sort (λ s ts a us rest e. absurd e) (λ s ts a us rest e. absurd e) (too_deep h) (λ s ts a us rest e i. absurd e) (rule s) f.fit ts a us rest d (outside_next (goes_on h t (rule s)) (t s) f.tails rest n)
  spelled_is_read (suc k) s ts a us rest d n =
      let f = parts h t rule s (w s) in
      complete h t true (IsSort h rule k) (shorter k) (begins k) (read_sort h rule k) (spelled_is_read k) (rule s) f.fit ts a us rest d (outside_next (goes_on h t (rule s)) (t s) f.tails rest n)
