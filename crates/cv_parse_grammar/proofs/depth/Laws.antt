-- The laws of depth and of dead tokens, for each table of rules and each form that is firm.
use Rattle.std.proofs.Common.{◌≡◌, ◌⊎◌, ℕ, suc, ◌<◌, ◌≤◌, Bool, true, false, inl, inr, List, [], ◌∷◌, ◌++◌, length, refl, ap, sym, ◌∙◌, arith, Ok, Err}
use Rattle.cv_syntax_trees.specs.Tree.{Tree}
use Rattle.cv_parse_notation.specs.declared.sign.Sign.{Sign}
use Rattle.cv_parse_notation.specs.Fits.{goes_on}
use Rattle.cv_parse_notation.specs.Form.{Form}
use Rattle.cv_parse_notation.specs.Local.{SameFirst, LocalAt}
use Rattle.cv_parse_notation.specs.Spells.{Kind, next_is, Use}
use Rattle.cv_parse_notation.specs.Reads.{Nesting, Syntax, Found, Read, ◌>>=◌, found, read_sort}
use Rattle.cv_parse_notation.specs.Whole.{Dead, IsWhole, ends_there, reads_whole, reads_with}
use Rattle.cv_parse_notation.proofs.Locality.{local, next_same, sort_local, takes_more}
use Rattle.cv_parse_grammar.specs.depth.Before.{IsBefore, reads_before, stops_before}
use Rattle.cv_parse_grammar.specs.depth.Depth.{IsTooDeep}
use Rattle.cv_parse_grammar.proofs.depth.Agreement.{Agrees, same, deep, IsFirm, spelled_agrees}
use Rattle.cv_parse_grammar.proofs.depth.Meeting.{IsFine, Meets, past, deep as deeper_still, stands_meets}
use Rattle.cv_parse_grammar.proofs.depth.Standing.{bind_err, nesting_stands}

same_or_more : (a b : ℕ) → b ≤ a → (a ≡ b) ⊎ (b < a)
same_or_more a b l = grind arith

settled : (a b d n : ℕ) → b ≤ a → n < d → (b < a → d ≤ n) → a ≡ b
settled a b d n l m f = elim (same_or_more a b l) [ inl e ↦ e | inr i ↦ absurd (let j = f i in omega arith) ]

module _ {R σ A : Type 0} (h t : σ → Kind → Bool) (rule : σ → Form R σ Tree) (w : (s : σ) → IsFirm h t rule s) (f : Form R σ A) (v : IsFine h t f) where
  -- nesting

  earlier_fits : (n d : ℕ) (ts rest earlier : List Sign) → reads_with h rule f n ts ≡ Err (Nesting (length rest)) → length rest < length earlier → Meets (suc n) d earlier (reads_with h rule f n ts) → d ≤ suc n
  earlier_fits n d ts rest earlier e l (past i j) = i
  earlier_fits n d ts rest earlier e l (deeper_still k i j) = absurd (let z = sym i ∙ e in let y : k ≡ length rest = cc in omega arith)

  nesting_is_deep : (n : ℕ) (ts : List Sign) (k : ℕ) → reads_with h rule f n ts ≡ Err (Nesting k) → IsTooDeep h rule f (suc n) ts k
  nesting_is_deep n ts k e =
      let d = nesting_stands h t rule w f v n ts k e in
      record {
        rest = d.rest;
        at = d.at;
        deep = (n, d.stands);
        first = λ earlier depth s l. earlier_fits n depth ts d.rest earlier (e ∙ ap (λ j. Err (Nesting j)) d.at) l (stands_meets h t rule w f v s.0 (suc n) depth ts earlier s.1);
      }

  refused_at : (n : ℕ) (ts : List Sign) (k : ℕ) (d : IsTooDeep h rule f (suc n) ts k) → Meets (suc n) (suc (suc n)) d.rest (reads_with h rule f n ts) → reads_with h rule f n ts ≡ Err (Nesting k)
  refused_at n ts k d (past i j) = absurd (omega arith)
  refused_at n ts k d (deeper_still j i l) =
      let s = nesting_stands h t rule w f v n ts j i in
      let at = s.at in
      let by = d.at in
      let same_place : length s.rest ≡ length d.rest = settled (length s.rest) (length d.rest) (suc (suc n)) (suc n) (omega arith) (omega arith) (d.first s.rest (suc (suc n)) (n, s.stands)) in
      let e : j ≡ k = omega arith in
      i ∙ ap (λ x. Err (Nesting x)) e

  deep_is_nesting : (n : ℕ) (ts : List Sign) (k : ℕ) → IsTooDeep h rule f (suc n) ts k → reads_with h rule f n ts ≡ Err (Nesting k)
  deep_is_nesting n ts k d = refused_at n ts k d (stands_meets h t rule w f v d.deep.0 (suc n) (suc (suc n)) ts d.rest d.deep.1)

  -- what stops where more is read names no fault of depth
  stopped : (g : Found R A → Read R A) → ((x : Found R A) (j : ℕ) → g x ≡ Err (Nesting j) → ⊥) → (r : Read R A) (k : ℕ) → (r >>= g) ≡ Err (Nesting k) → r ≡ Err (Nesting k)
  stopped g n r k e = go (bind_err r g (Nesting k) e)
    where
      go : (r ≡ Err (Nesting k)) ⊎ ((x : Found R A) × (r ≡ Ok x) × (g x ≡ Err (Nesting k))) → r ≡ Err (Nesting k)
      go (inl i) = i
      go (inr (x, i, j)) = absurd (n x k j)

  at_end : (x : Found R A) (l : List Sign) → x.rest ≡ l → (j : ℕ) → ends_there x ≡ Err (Nesting j) → ⊥
  at_end x [] i j e = let z : ends_there x ≡ Ok x = rw i refl in let y = sym z ∙ e in cc
  at_end x (u ∷ us) i j e = let z : ends_there x ≡ Err (Syntax (length (u ∷ us))) = rw i refl in let y = sym z ∙ e in cc

  at_stop : (barred : Kind → Bool) (x : Found R A) (b : Bool) → next_is barred x.rest ≡ b → (j : ℕ) → stops_before barred x ≡ Err (Nesting j) → ⊥
  at_stop barred x true i j e = let z : stops_before barred x ≡ Err (Syntax (length x.rest)) = rw i refl in let y = sym z ∙ e in cc
  at_stop barred x false i j e = let z : stops_before barred x ≡ Ok x = rw i refl in let y = sym z ∙ e in cc

  -- reading a phrase with nothing behind it refuses a token for its depth
  pub whole_nesting : (n : ℕ) (ts : List Sign) (k : ℕ) → reads_whole h rule f n ts ≡ Err (Nesting k) → IsTooDeep h rule f (suc n) ts k
  whole_nesting n ts k e = nesting_is_deep n ts k (stopped ends_there (λ x j i. at_end x x.rest refl j i) (reads_with h rule f n ts) k e)

  pub whole_deep : (n : ℕ) (ts : List Sign) (k : ℕ) → IsTooDeep h rule f (suc n) ts k → reads_whole h rule f n ts ≡ Err (Nesting k)
  whole_deep n ts k d = ap (λ r. r >>= ends_there) (deep_is_nesting n ts k d)

  -- reading a phrase with more behind it does
  pub before_nesting : (barred : Kind → Bool) (n : ℕ) (ts : List Sign) (k : ℕ) → reads_before barred h rule f n ts ≡ Err (Nesting k) → IsTooDeep h rule f (suc n) ts k
  before_nesting barred n ts k e = nesting_is_deep n ts k (stopped (stops_before barred) (λ x j i. at_stop barred x (next_is barred x.rest) refl j i) (reads_with h rule f n ts) k e)

  pub before_deep : (barred : Kind → Bool) (n : ℕ) (ts : List Sign) (k : ℕ) → IsTooDeep h rule f (suc n) ts k → reads_before barred h rule f n ts ≡ Err (Nesting k)
  before_deep barred n ts k d = ap (λ r. r >>= stops_before barred) (deep_is_nesting n ts k d)

  -- dead tokens

  form_local : (n : ℕ) (ts : List Sign) → LocalAt (reads_with h rule f n) ts (reads_with h rule f n ts)
  form_local n = let w' = λ (s : σ). (w s).fitting in local h true (read_sort h rule n) (sort_local h t rule w' n) (takes_more h t rule w' n) f v.steady

  -- what is read where a phrase is spelled
  never_syntax : (r : Read R A) (a : A) (us : List (Use R)) (rest : List Sign) (k : ℕ) → Agrees r (found a us rest) → r ≡ Err (Syntax k) → ⊥
  never_syntax r a us rest k (same e) i = let j = sym e ∙ i in cc
  never_syntax r a us rest k (deep l e z) i = let j = sym e ∙ i in cc

  ends_so : (r : Read R A) (a : A) (us : List (Use R)) (rest : List Sign) (y : Found R A) → Agrees r (found a us rest) → r ≡ Ok y → y.rest ≡ rest
  ends_so r a us rest y (same e) i = let j = sym i ∙ e in let z : y ≡ record { value = a; uses = us; rest = rest } = cc in ap (λ x. x.rest) z
  ends_so r a us rest y (deep l e z) i = absurd (let j = sym e ∙ i in cc)

  module _ (barred : Kind → Bool) (past_it : (ts : List Sign) → next_is barred ts ≡ false → next_is (goes_on h t f) ts ≡ false) where
    spelled_before : (n m : ℕ) (ts : List Sign) (d : IsBefore barred h rule f m ts) → Agrees (reads_with h rule f n ts) (found d.value d.uses d.rest)
    spelled_before n m ts d = spelled_agrees h t rule w f v.fit v.levels m (suc n) ts d.value d.uses d.rest d.spelled (past_it d.rest d.clear)

    stopped_at : (n m : ℕ) (ts : List Sign) (x : Found R A) (left : ℕ) → LocalAt (reads_with h rule f n) ts (Ok x) → (b : Bool) → next_is barred x.rest ≡ b → stops_before barred x ≡ Err (Syntax left) → Dead (IsBefore barred h rule f m) ts left
    stopped_at n m ts x left l false i e = absurd (let z : stops_before barred x ≡ Ok x = rw i refl in let y = sym z ∙ e in cc)
    stopped_at n m ts x left l true i e = record { front = l.0; rest = x.rest; split = l.1; left = let z : stops_before barred x ≡ Err (Syntax (length x.rest)) = rw i refl in let y = sym z ∙ e in cc; none = never }
      where
        never : (more : List Sign) → SameFirst x.rest more → IsBefore barred h rule f m (l.0 ++ more) → ⊥
        never more s d =
            let y = l.2 more s in
            let z = sym y.2 ∙ ends_so (reads_with h rule f n (l.0 ++ more)) d.value d.uses d.rest y.0 (spelled_before n m (l.0 ++ more) d) y.1 in
            let a = sym (next_same barred x.rest more s) ∙ i in
            let c = ap (next_is barred) z ∙ d.clear in
            let q = sym a ∙ c in cc

    dead_at : (n m : ℕ) (ts : List Sign) (r : Read R A) (left : ℕ) → LocalAt (reads_with h rule f n) ts r → (r >>= stops_before barred) ≡ Err (Syntax left) → Dead (IsBefore barred h rule f m) ts left
    dead_at n m ts (Err (Nesting k)) left l e = absurd (cc)
    dead_at n m ts (Err (Syntax k)) left l e = record {
      front = l.0;
      rest = l.1;
      split = l.2;
      left = let i : left ≡ k = cc in let j : k ≡ length l.1 = (let z = l.3 in cc) in i ∙ j;
      none = λ more s d. never_syntax (reads_with h rule f n (l.0 ++ more)) d.value d.uses d.rest (length more) (spelled_before n m (l.0 ++ more) d) (l.4 more s);
    }
    dead_at n m ts (Ok x) left l e = stopped_at n m ts x left l (next_is barred x.rest) refl e

    -- no such phrase begins with the tokens through a fault of syntax, at any depth
    pub before_dead : (n m : ℕ) (ts : List Sign) (left : ℕ) → reads_before barred h rule f n ts ≡ Err (Syntax left) → Dead (IsBefore barred h rule f m) ts left
    before_dead n m ts left e = dead_at n m ts (reads_with h rule f n ts) left (form_local n ts) e

  any : Kind → Bool
  any k = true

  any_past : (ts : List Sign) → next_is any ts ≡ false → next_is (goes_on h t f) ts ≡ false
  unfolding any
  any_past [] e = refl
  any_past (u ∷ us) e = absurd (cc)

  same_end : (r : Read R A) → (r >>= ends_there) ≡ (r >>= stops_before any)
  unfolding any
  same_end (Err e) = refl
  same_end (Ok x) = go x.rest refl
    where
      go : (rest : List Sign) → x.rest ≡ rest → ends_there x ≡ stops_before (λ k. true) x
      go [] i = (let z : ends_there x ≡ Ok x = rw i refl in z) ∙ sym (let z : stops_before (λ k. true) x ≡ Ok x = rw i refl in z)
      go (u ∷ us) i = (let z : ends_there x ≡ Err (Syntax (length x.rest)) = rw i refl in z) ∙ sym (let z : stops_before (λ k. true) x ≡ Err (Syntax (length x.rest)) = rw i refl in z)

  -- nothing begins with the tokens through a fault of syntax, at any depth
  pub whole_dead : (n m : ℕ) (ts : List Sign) (left : ℕ) → reads_whole h rule f n ts ≡ Err (Syntax left) → Dead (IsWhole h rule f m) ts left
  unfolding any
  whole_dead n m ts left e =
      let d = before_dead any any_past n m ts left (sym (same_end (reads_with h rule f n ts)) ∙ e) in
      record { front = d.front; rest = d.rest; split = d.split; left = d.left; none = λ more s i. d.none more s (record { value = i.0; uses = i.1; rest = []; spelled = i.2; clear = refl }) }
