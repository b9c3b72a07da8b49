-- What reading answers of a token that stands in a phrase: it passes it, or names one that stands too deep.
use Rattle.std.proofs.Common.{◌≡◌, ℕ, zero, suc, ◌<◌, ◌≤◌, Bool, true, false, ◌&&◌, not, inl, inr, List, [], ◌∷◌, length, refl, ap, sym, arith, subst, Some, None, Err}
use Rattle.std.proofs.lemmas.Bool.{not-true}
use Rattle.cv_syntax_trees.proofs.lists.Tests.{and_first, and_second}
use Rattle.cv_syntax_trees.specs.Tree.{Tree}
use Rattle.cv_parse_notation.specs.declared.script.ScriptWord.{ScriptWord}
use Rattle.cv_parse_notation.specs.declared.sign.Mark.{Mark}
use Rattle.cv_parse_notation.specs.declared.sign.Sign.{Sign}
use Rattle.cv_parse_notation.specs.declared.sign.Sign.TheVariants as token
use Rattle.cv_parse_notation.specs.Fits.{apart, fits, goes_on}
use Rattle.cv_parse_notation.specs.Form.{Form, sign, script_word, word, number, nought, find_word, unnamed, other, note, both, may, many, either, made, level, deeper}
use Rattle.cv_parse_notation.specs.Spells.{Kind, kind_of, is_mark, is_script_word, is_word, is_number, is_zero, is_find, is_unnamed, is_other, is_steady, may_vanish, starts, next_is, Use, Spells, IsSort}
use Rattle.cv_parse_notation.specs.Reads.{Nesting, Found, Read, Reader, ◌>>=◌, found, pick, no_syntax, no_level, read_sign, read_script_word, read_word, read_number, read_nought, read_find, read_unnamed, read_other, nothing, joined, one_more, mapped, read_many}
use Rattle.cv_parse_notation.proofs.Lengths.{lengths, toll}
use Rattle.cv_parse_notation.proofs.Sorts.{begins, parts, shorter}
use Rattle.cv_parse_grammar.specs.depth.Depth.{InTurn, here, later, IsNext, Stands, StandsBelow, StandsIn}
use Rattle.cv_parse_grammar.proofs.depth.Readers.{left_in, left_then, Takes, takes, takes_many, takes_then, has_firm_levels}
use Rattle.cv_parse_grammar.proofs.depth.Agreement.{Agrees, same, deep as sooner, IsFirm, has_room, reads_below, reads_at, row_of, takes_below, spelled_agrees}
use Rattle.cv_parse_grammar.proofs.depth.Beginning.{Begins, begins_turn, below_begins, stands_begins}
use Rattle.cv_parse_notation.proofs.Complete.{apart_next}

-- a form that may be read
pub record IsFine {R σ A : Type 0} (h t : σ → Kind → Bool) (f : Form R σ A) : Type 0 where
  pub fit : fits h t f ≡ true
  pub steady : is_steady f ≡ true
  pub levels : has_firm_levels f ≡ true

pub fine_first : {R σ A B : Type 0} (h t : σ → Kind → Bool) (f : Form R σ A) (g : Form R σ B) → IsFine h t (both f g) → IsFine h t f
fine_first h t f g w = record { fit = and_first _ _ w.fit; steady = and_first _ _ w.steady; levels = and_first _ _ w.levels }

pub fine_second : {R σ A B : Type 0} (h t : σ → Kind → Bool) (f : Form R σ A) (g : Form R σ B) → IsFine h t (both f g) → IsFine h t g
fine_second h t f g w = record { fit = and_first _ _ (and_second (fits h t f) _ w.fit); steady = and_second (is_steady f) _ w.steady; levels = and_second (has_firm_levels f) _ w.levels }

pub fine_may : {R σ A : Type 0} (h t : σ → Kind → Bool) (near : Bool) (f : Form R σ A) → IsFine h t (may near f) → IsFine h t f
fine_may h t near f w = record { fit = and_first _ _ w.fit; steady = w.steady; levels = w.levels }

pub fine_many : {R σ A : Type 0} (h t : σ → Kind → Bool) (near : Bool) (f : Form R σ A) → IsFine h t (many near f) → IsFine h t f
fine_many h t near f w = record { fit = and_first _ _ w.fit; steady = and_second (not (may_vanish f)) _ w.steady; levels = w.levels }

pub fine_left : {R σ A : Type 0} (h t : σ → Kind → Bool) (f g : Form R σ A) → IsFine h t (either f g) → IsFine h t f
fine_left h t f g w = record { fit = and_first _ _ w.fit; steady = and_first _ _ w.steady; levels = and_first _ _ w.levels }

pub fine_right : {R σ A : Type 0} (h t : σ → Kind → Bool) (f g : Form R σ A) → IsFine h t (either f g) → IsFine h t g
fine_right h t f g w = record { fit = and_first _ _ (and_second (fits h t f) _ w.fit); steady = and_second (is_steady f) _ w.steady; levels = and_first _ _ (and_second (has_firm_levels f) _ w.levels) }

pub fine_made : {R σ A B : Type 0} (h t : σ → Kind → Bool) (v : A → B) (f : Form R σ A) → IsFine h t (made v f) → IsFine h t f
fine_made h t v f w = record { fit = w.fit; steady = w.steady; levels = w.levels }

pub fine_level : {R σ A : Type 0} (h t : σ → Kind → Bool) (f : Form R σ A) → IsFine h t (level f) → IsFine h t f
fine_level h t f w = record { fit = w.fit; steady = w.steady; levels = and_first _ _ w.levels }

-- Where the depth is within the bound reading passes the token; or it names one that stands too deep, that one or one before.
pub data Meets {R A : Type 0} (bound depth : ℕ) (rest : List Sign) (r : Read R A) : Type 0 where
  past : depth ≤ bound → left_in r < length rest → Meets bound depth rest r
  deep : (k : ℕ) → r ≡ Err (Nesting k) → length rest ≤ k → Meets bound depth rest r

meets_then : {R A B : Type 0} (bound depth : ℕ) (rest : List Sign) (g : Found R A → Read R B) → ((x : Found R A) → left_in (g x) ≤ length x.rest) → (r : Read R A) → Meets bound depth rest r → Meets bound depth rest (r >>= g)
meets_then bound depth rest g l r (past e i) = past e (let j = left_then g l r in omega arith)
meets_then {R} {A} bound depth rest g l r (deep k e i) = deep k (ap (λ (z : Read R A). z >>= g) e) i

meets_behind : {R A B : Type 0} (bound depth : ℕ) (rest : List Sign) (g : Found R A → Read R B) (r : Read R A) (a : A) (us : List (Use R)) (mid : List Sign) → Agrees r (found a us mid) → length rest ≤ length mid → Meets bound depth rest (found a us mid >>= g) → Meets bound depth rest (r >>= g)
meets_behind bound depth rest g r a us mid (same e) l m = subst (λ z. Meets bound depth rest (z >>= g)) (sym e) m
meets_behind {R} {A} bound depth rest g r a us mid (sooner k e i) l m = deep k (ap (λ (z : Read R A). z >>= g) e) (omega arith)

meets_picked : {R A : Type 0} (bound depth : ℕ) (rest : List Sign) (b : Bool) (p q : Reader R A) (ts : List Sign) → b ≡ true → Meets bound depth rest (p ts) → Meets bound depth rest (pick b p q ts)
meets_picked bound depth rest true p q ts e m = m
meets_picked bound depth rest false p q ts e m = absurd (cc)

meets_passed : {R A : Type 0} (bound depth : ℕ) (rest : List Sign) (b : Bool) (p q : Reader R A) (ts : List Sign) → b ≡ false → Meets bound depth rest (q ts) → Meets bound depth rest (pick b p q ts)
meets_passed bound depth rest true p q ts e m = absurd (cc)
meets_passed bound depth rest false p q ts e m = m

meets_level : {R A : Type 0} (bound depth : ℕ) (rest : List Sign) (room b : Bool) (p : Reader R A) (ts : List Sign) → b ≡ true → length rest ≤ length ts → (room ≡ true → Meets bound depth rest (p ts)) → Meets bound depth rest (pick room p (pick b no_level no_syntax) ts)
meets_level bound depth rest true b p ts e l m = m refl
meets_level bound depth rest false true p ts e l m = deep (length ts) refl l
meets_level bound depth rest false false p ts e l m = absurd (cc)

-- one token

past_sign : (R : Type 0) (m : Mark) (ts : List Sign) → next_is (is_mark m) ts ≡ true → left_in (read_sign {R = R} m ts) < length ts
past_sign R m [] e = absurd (cc)
past_sign R m (t ∷ ts) e = go (is_mark m (kind_of t)) e
  where
    go : (b : Bool) → b ≡ true → left_in {R = R} {A = Unit {0}} (pick b (λ us. found tt [] ts) no_syntax (t ∷ ts)) < length (t ∷ ts)
    go true i = omega arith
    go false i = absurd (cc)

past_script_word : (R : Type 0) (w : ScriptWord) (ts : List Sign) → next_is (is_script_word w) ts ≡ true → left_in (read_script_word {R = R} w ts) < length ts
past_script_word R w [] e = absurd (cc)
past_script_word R w (t ∷ ts) e = go (is_script_word w (kind_of t)) e
  where
    go : (b : Bool) → b ≡ true → left_in {R = R} {A = Unit {0}} (pick b (λ us. found tt [] ts) no_syntax (t ∷ ts)) < length (t ∷ ts)
    go true i = omega arith
    go false i = absurd (cc)

past_other : (R : Type 0) (ts : List Sign) → next_is is_other ts ≡ true → left_in (read_other {R = R} ts) < length ts
past_other R [] e = absurd (cc)
past_other R (t ∷ ts) e = go (is_other (kind_of t)) e
  where
    go : (b : Bool) → b ≡ true → left_in {R = R} {A = Unit {0}} (pick b (λ us. found tt [] ts) no_syntax (t ∷ ts)) < length (t ∷ ts)
    go true i = omega arith
    go false i = absurd (cc)

past_word : {R : Type 0} (r : R) (ts : List Sign) → next_is is_word ts ≡ true → left_in (read_word r ts) < length ts
past_word r [] e = absurd (cc)
past_word r (token.Word x w ∷ ts) e = omega arith
past_word r (token.Number zero ∷ ts) e = absurd (cc)
past_word r (token.Number (suc v) ∷ ts) e = absurd (cc)
past_word r (t ∷ ts) e = absurd (cc)

past_unnamed : {R : Type 0} (r : R) (ts : List Sign) → next_is is_unnamed ts ≡ true → left_in (read_unnamed r ts) < length ts
past_unnamed r [] e = absurd (cc)
past_unnamed r (token.Unnamed x ∷ ts) e = omega arith
past_unnamed r (token.Number zero ∷ ts) e = absurd (cc)
past_unnamed r (token.Number (suc v) ∷ ts) e = absurd (cc)
past_unnamed r (t ∷ ts) e = absurd (cc)

past_number : (R : Type 0) (ts : List Sign) → next_is is_number ts ≡ true → left_in (read_number {R = R} ts) < length ts
past_number R [] e = absurd (cc)
past_number R (token.Number x ∷ ts) e = omega arith
past_number R (t ∷ ts) e = absurd (cc)

past_nought : (R : Type 0) (ts : List Sign) → next_is is_zero ts ≡ true → left_in (read_nought {R = R} ts) < length ts
past_nought R [] e = absurd (cc)
past_nought R (token.Number zero ∷ ts) e = omega arith
past_nought R (token.Number (suc v) ∷ ts) e = absurd (cc)
past_nought R (t ∷ ts) e = absurd (cc)

past_find : (R : Type 0) (ts : List Sign) → next_is is_find ts ≡ true → left_in (read_find {R = R} ts) < length ts
past_find R [] e = absurd (cc)
past_find R (token.Find x ∷ ts) e = omega arith
past_find R (token.Number zero ∷ ts) e = absurd (cc)
past_find R (token.Number (suc v) ∷ ts) e = absurd (cc)
past_find R (t ∷ ts) e = absurd (cc)

token_meets : {R A : Type 0} (k : Kind → Bool) (p : Reader R A) → ((ts : List Sign) → next_is k ts ≡ true → left_in (p ts) < length ts) → (bound depth own : ℕ) (ts rest : List Sign) → own ≤ bound → IsNext k depth own ts rest → Meets bound depth rest (p ts)
token_meets k p f bound depth own ts rest l d =
    let i = f ts (subst (λ us. next_is k us ≡ true) (sym d.place) d.fits) in
    let e = ap length d.place in
    let o = d.levels in
    past (omega arith) (omega arith)

some_next : (k : Kind → Bool) (ts : List Sign) → next_is k ts ≡ true → 0 < length ts
some_next k [] e = absurd (cc)
some_next k (t ∷ ts) e = omega arith

-- many, of which each takes a token
module _ {R A : Type 0} (bound depth : ℕ) (rest : List Sign) (k : Kind → Bool) (p : Reader R A) (l : Takes p) (P : List Sign → A → List (Use R) → List Sign → Type 0) (Holds : List Sign → Type 0) (b : (ts : List Sign) → InTurn P Holds ts → Begins k ts rest) (m : (ts : List Sign) → Holds ts → Meets bound depth rest (p ts)) (a : (ts : List Sign) (x : A) (us : List (Use R)) (mid : List Sign) → P ts x us mid → next_is k mid ≡ true → Agrees (p ts) (found x us mid)) (s : (ts : List Sign) (x : A) (us : List (Use R)) (mid : List Sign) → P ts x us mid → length mid < length ts) where
  meets_many : (n : ℕ) (ts : List Sign) → length ts ≤ n → InTurn P Holds ts → Meets bound depth rest (read_many k p n ts)
  meets_many zero ts e d = absurd (let i = some_next k ts (b ts d).next in omega arith)
  meets_many (suc n) ts e (here d) =
      meets_picked bound depth rest (next_is k ts) (λ us. p us >>= λ x. read_many k p n x.rest >>= one_more x) (nothing []) ts (b ts (here d)).next (
      meets_then bound depth rest (λ x. read_many k p n x.rest >>= one_more x) (λ x. takes_then (read_many k p n) (one_more x) (takes_many k p l n) (λ y. omega arith) x.rest) (p ts) (m ts d)
      )
  meets_many (suc n) ts e (later {mid = mid} x us d i) =
      let g = b mid i in
      let fewer = s ts x us mid d in
      meets_picked bound depth rest (next_is k ts) (λ us. p us >>= λ x. read_many k p n x.rest >>= one_more x) (nothing []) ts (b ts (later x us d i)).next (
      meets_behind bound depth rest (λ x. read_many k p n x.rest >>= one_more x) (p ts) x us mid (a ts x us mid d g.next) g.enough (
      meets_then bound depth rest (one_more (record { value = x; uses = us; rest = mid })) (λ y. omega arith) (read_many k p n mid) (meets_many n mid (omega arith) i)
      )
      )

has_one : (n : ℕ) → has_room n ≡ true → 1 ≤ n
has_one zero e = absurd (cc)
has_one (suc n) e = omega arith

module _ {R σ : Type 0} (h t : σ → Kind → Bool) (rule : σ → Form R σ Tree) (w : (s : σ) → IsFirm h t rule s) (n bound depth : ℕ) (m : (s : σ) (ts rest : List Sign) → StandsBelow h rule n depth s ts rest → Meets bound depth rest (reads_below h rule bound s ts)) where
  pub begins_in : {A : Type 0} (f : Form R σ A) (own : ℕ) (ts rest : List Sign) → Stands h (IsSort h rule n) (StandsBelow h rule n depth) depth own f ts rest → Begins (starts h f) ts rest
  begins_in = stands_begins h (IsSort h rule n) (begins h t rule (λ s. (w s).fitting) n) (shorter h t rule (λ s. (w s).fitting) n) (StandsBelow h rule n depth) (below_begins h t rule w n depth) depth

  pub meets : {A : Type 0} (f : Form R σ A) → IsFine h t f → (own : ℕ) → own ≤ bound → (ts rest : List Sign) → Stands h (IsSort h rule n) (StandsBelow h rule n depth) depth own f ts rest → Meets bound depth rest (reads_at h rule bound f ts)
  meets (sign q) v own l ts rest d = token_meets (is_mark q) (read_sign q) (past_sign R q) bound depth own ts rest l d
  meets (script_word q) v own l ts rest d = token_meets (is_script_word q) (read_script_word q) (past_script_word R q) bound depth own ts rest l d
  meets (word q) v own l ts rest d = token_meets is_word (read_word q) (past_word q) bound depth own ts rest l d
  meets number v own l ts rest d = token_meets is_number read_number (past_number R) bound depth own ts rest l d
  meets nought v own l ts rest d = token_meets is_zero read_nought (past_nought R) bound depth own ts rest l d
  meets find_word v own l ts rest d = token_meets is_find read_find (past_find R) bound depth own ts rest l d
  meets (unnamed q) v own l ts rest d = token_meets is_unnamed (read_unnamed q) (past_unnamed q) bound depth own ts rest l d
  meets other v own l ts rest d = token_meets is_other read_other (past_other R) bound depth own ts rest l d
  meets (note q) v own l ts rest d = absurd d
  meets (both f g) v own l ts rest (inl d) =
      let p = reads_at h rule bound g in
      meets_then bound depth rest (λ x. p x.rest >>= joined x) (λ x. takes_then p (joined x) (takes h (has_room bound) (reads_below h rule bound) (takes_below h t rule w bound) g) (λ y. omega arith) x.rest) (reads_at h rule bound f ts) (meets f (fine_first h t f g v) own l ts rest d)
  meets (both f g) v own l ts rest (inr d) =
      let p = reads_at h rule bound g in
      let i = begins_in g own d.mid rest d.holds in
      let fine = fine_first h t f g v in
      let e = apart_next (starts h g) (goes_on h t f) (and_second (fits h t g) _ (and_second (fits h t f) _ v.fit)) d.mid i.next in
      meets_behind bound depth rest (λ x. p x.rest >>= joined x) (reads_at h rule bound f ts) d.value d.uses d.mid (spelled_agrees h t rule w f fine.fit fine.levels n bound ts d.value d.uses d.mid d.phrase e) i.enough (
      meets_then bound depth rest (joined (record { value = d.value; uses = d.uses; rest = d.mid })) (λ y. omega arith) (p d.mid) (meets g (fine_second h t f g v) own l d.mid rest d.holds)
      )
  meets (may near f) v own l ts rest d =
      let p = reads_at h rule bound f in
      meets_picked bound depth rest (next_is (starts h f) ts) (λ us. p us >>= mapped Some) (nothing None) ts (begins_in f own ts rest d).next (meets_then bound depth rest (mapped Some) (λ y. omega arith) (p ts) (meets f (fine_may h t near f v) own l ts rest d))
  meets (many near f) v own l ts rest d =
      let fine = fine_many h t near f v in
      let i = and_second (fits h t f) (not (may_vanish f) && apart (starts h f) (goes_on h t f)) v.fit in
      let stays = not-true (may_vanish f) (and_first (not (may_vanish f)) _ i) in
      let w' = λ (s : σ). (w s).fitting in
      meets_many bound depth rest (starts h f) (reads_at h rule bound f) (takes h (has_room bound) (reads_below h rule bound) (takes_below h t rule w bound) f) (Spells h true (IsSort h rule n) f) (λ mid. Stands h (IsSort h rule n) (StandsBelow h rule n depth) depth own f mid rest) (
      begins_turn h (IsSort h rule n) (begins h t rule w' n) (shorter h t rule w' n) (StandsBelow h rule n depth) (below_begins h t rule w n depth) depth f (λ mid. Stands h (IsSort h rule n) (StandsBelow h rule n depth) depth own f mid rest) rest (λ us e. begins_in f own us rest e)
      ) (λ us e. meets f fine own l us rest e) (λ us x uses mid e z. spelled_agrees h t rule w f fine.fit fine.levels n bound us x uses mid e (apart_next (starts h f) (goes_on h t f) (and_second (not (may_vanish f)) _ i) mid z)) (λ us x uses mid e. let k = lengths h true (IsSort h rule n) (shorter h t rule w' n) f us x uses mid e in let j = ap toll stays in omega arith) (length ts) ts (omega arith) d
  meets (either f g) v own l ts rest (inl d) = meets_picked bound depth rest (next_is (starts h f) ts) (reads_at h rule bound f) (reads_at h rule bound g) ts (begins_in f own ts rest d).next (meets f (fine_left h t f g v) own l ts rest d)
  meets (either f g) v own l ts rest (inr d) = meets_passed bound depth rest (next_is (starts h f) ts) (reads_at h rule bound f) (reads_at h rule bound g) ts d.0 (meets g (fine_right h t f g v) own l ts rest d.1)
  meets (made q f) v own l ts rest d = meets_then bound depth rest (mapped q) (λ y. omega arith) (reads_at h rule bound f ts) (meets f (fine_made h t q f v) own l ts rest d)
  meets (level f) v own l ts rest d =
      let i = begins_in f 1 ts rest d in
      meets_level bound depth rest (has_room bound) (next_is (starts h f) ts) (reads_at h rule bound f) ts i.next i.enough (λ e. meets f (fine_level h t f v) 1 (has_one bound e) ts rest d)
  meets (deeper s) v own l ts rest d = m s ts rest d

module _ {R σ : Type 0} (h t : σ → Kind → Bool) (rule : σ → Form R σ Tree) (w : (s : σ) → IsFirm h t rule s) where
  pub fine_row : (s : σ) → IsFine h t (rule s)
  fine_row s = let p = parts h t rule s (w s).fitting in record { fit = p.fit; steady = p.steady; levels = (w s).levels }

  one_deeper : {A : Type 0} (bound depth : ℕ) (rest : List Sign) (r : Read R A) → Meets bound depth rest r → Meets (suc bound) (suc depth) rest r
  one_deeper bound depth rest r (past e l) = past (omega arith) l
  one_deeper bound depth rest r (deep k e l) = deep k e l

  pub meets_below : (n depth bound : ℕ) (s : σ) (ts rest : List Sign) → StandsBelow h rule n depth s ts rest → Meets bound depth rest (reads_below h rule bound s ts)
  unfolding StandsBelow
  meets_below n zero bound s ts rest d = absurd d
  meets_below n (suc depth) zero s ts rest d = let b = below_begins h t rule w n (suc depth) s ts rest d in meets_picked zero (suc depth) rest (next_is (h s) ts) no_level no_syntax ts b.next (deep (length ts) refl b.enough)
  meets_below n (suc depth) (suc bound) s ts rest d =
      subst (λ r. Meets (suc bound) (suc depth) rest r) (sym (row_of h rule bound s ts)) (one_deeper bound depth rest (reads_at h rule bound (rule s) ts) (meets h t rule w n bound depth (meets_below n depth bound) (rule s) (fine_row s) 0 (omega arith) ts rest d))

  -- what reading answers of a token that stands in a phrase
  pub stands_meets : {A : Type 0} (f : Form R σ A) → IsFine h t f → (n bound depth : ℕ) (ts rest : List Sign) → StandsIn h rule f n depth ts rest → Meets bound depth rest (reads_at h rule bound f ts)
  stands_meets f v n bound depth ts rest d = meets h t rule w n bound depth (meets_below n depth bound) f v 0 (omega arith) ts rest d
