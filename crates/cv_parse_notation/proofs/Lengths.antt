-- A phrase takes tokens from the front.
use Rattle.std.proofs.Common.{◌≡◌, ℕ, zero, suc, ◌+◌, ◌<◌, ◌≤◌, Bool, true, false, ◌&&◌, ◌||◌, inl, inr, List, [], ◌∷◌, length, ap, arith, Option, Some, None}
use Rattle.cv_syntax_trees.specs.Tree.{Tree}
use Rattle.cv_parse_notation.specs.declared.script.ScriptWord.{ScriptWord}
use Rattle.cv_parse_notation.specs.declared.sign.Sign.{Sign}
use Rattle.cv_parse_notation.specs.Form.{Form, sign, script_word, word, number, nought, find_word, unnamed, other, note, both, may, many, either, made, level, deeper}
use Rattle.cv_parse_notation.specs.Spells.{Kind, starts, may_vanish, Use, IsToken, IsWord, IsScriptWord, IsNothing, Perhaps, Each, Spells, IsSort, no_sort}

-- the least number of tokens
abbrev pub toll : Bool → ℕ
toll true = 0
toll false = 1

toll_both : (a b : Bool) (m n k : ℕ) → n + toll a ≤ m → k + toll b ≤ n → k + toll (a && b) ≤ m
toll_both true true m n k h i = omega arith
toll_both true false m n k h i = omega arith
toll_both false true m n k h i = omega arith
toll_both false false m n k h i = omega arith

toll_first : (a b : Bool) (m n : ℕ) → n + toll a ≤ m → n + toll (a || b) ≤ m
toll_first true b m n h = h
toll_first false true m n h = omega arith
toll_first false false m n h = h

toll_second : (a b : Bool) (m n : ℕ) → n + toll b ≤ m → n + toll (a || b) ≤ m
toll_second true true m n h = h
toll_second true false m n h = omega arith
toll_second false b m n h = h

token_length : {R : Type 0} {t : Sign} {u us : List (Use R)} {ts rest : List Sign} → IsToken t u ts us rest → length rest + 1 ≤ length ts
token_length d = let e = ap length d.tokens in omega arith

word_length : {R : Type 0} {x : ℕ} {u us : List (Use R)} {ts rest : List Sign} → IsWord x u ts us rest → length rest + 1 ≤ length ts
word_length d = let e = ap length d.tokens in omega arith

script_word_length : {R : Type 0} {w : ScriptWord} {us : List (Use R)} {ts rest : List Sign} → IsScriptWord w ts us rest → length rest + 1 ≤ length ts
script_word_length d = let e = ap length d.tokens in omega arith

nothing_length : {R : Type 0} {u us : List (Use R)} {ts rest : List Sign} → IsNothing u ts us rest → length rest + 0 ≤ length ts
nothing_length d = let e = ap length d.tokens in omega arith

perhaps_length : {R A : Type 0} (P : List Sign → A → List (Use R) → List Sign → Type 0) (near : Bool) (k : Kind → Bool) → ((ts : List Sign) (a : A) (us : List (Use R)) (rest : List Sign) → P ts a us rest → length rest ≤ length ts) → (ts : List Sign) (o : Option A) (us : List (Use R)) (rest : List Sign) → Perhaps P near k ts o us rest → length rest ≤ length ts
perhaps_length P near k s ts None us rest d = omega (arith, nothing_length d.0)
perhaps_length P near k s ts (Some a) us rest d = s ts a us rest d

each_length : {R A : Type 0} (P : List Sign → A → List (Use R) → List Sign → Type 0) (near : Bool) (k : Kind → Bool) → ((ts : List Sign) (a : A) (us : List (Use R)) (rest : List Sign) → P ts a us rest → length rest ≤ length ts) → (ts : List Sign) (l : List A) (us : List (Use R)) (rest : List Sign) → Each P near k ts l us rest → length rest ≤ length ts
each_length P near k s ts [] us rest d = omega (arith, nothing_length d.0)
each_length P near k s ts (a ∷ l) us rest d = omega (arith, s ts a d.front d.mid d.first, each_length P near k s d.mid l d.back rest d.second)

module _ {R σ : Type 0} (h : σ → Kind → Bool) (room : Bool) (below : σ → List Sign → Tree → List (Use R) → List Sign → Type 0) (shorter : (s : σ) (ts : List Sign) (t : Tree) (us : List (Use R)) (rest : List Sign) → below s ts t us rest → length rest < length ts) where
  pub lengths : {A : Type 0} (f : Form R σ A) (ts : List Sign) (a : A) (us : List (Use R)) (rest : List Sign) → Spells h room below f ts a us rest → length rest + toll (may_vanish f) ≤ length ts
  lengths (sign m) ts a us rest d = token_length d
  lengths (script_word w) ts a us rest d = script_word_length d
  lengths (word r) ts a us rest d = word_length d
  lengths number ts a us rest d = token_length d
  lengths nought ts a us rest d = token_length d
  lengths find_word ts a us rest d = token_length d
  lengths (unnamed r) ts a us rest d = token_length d
  lengths other ts a us rest d = token_length d.2
  lengths (note r) ts a us rest d = nothing_length d.1
  lengths (both f g) ts a us rest d = toll_both (may_vanish f) (may_vanish g) (length ts) (length d.mid) (length rest) (lengths f ts a.0 d.front d.mid d.first) (lengths g d.mid a.1 d.back rest d.second)
  lengths (may near f) ts a us rest d = omega (arith, perhaps_length (Spells h room below f) near (starts h f) (λ ts a us rest e. let i = lengths f ts a us rest e in omega arith) ts a us rest d)
  lengths (many near f) ts a us rest d = omega (arith, each_length (Spells h room below f) near (starts h f) (λ ts a us rest e. let i = lengths f ts a us rest e in omega arith) ts a us rest d)
  lengths (either f g) ts a us rest d = elim d as (λ _. length rest + toll (may_vanish f || may_vanish g) ≤ length ts) [
    | inl e ↦ toll_first (may_vanish f) (may_vanish g) (length ts) (length rest) (lengths f ts a us rest e)
    | inr e ↦ toll_second (may_vanish f) (may_vanish g) (length ts) (length rest) (lengths g ts a us rest e.1)
  ]
  lengths (made v f) ts a us rest d = lengths f ts d.0 us rest d.1
  lengths (level f) ts a us rest d = lengths f ts a us rest d.1
  lengths (deeper s) ts a us rest d = let e = shorter s ts a us rest d in omega arith

pub sort_lengths : {R σ : Type 0} (h : σ → Kind → Bool) (rule : σ → Form R σ Tree) → ((s : σ) → may_vanish (rule s) ≡ false) → (n : ℕ) (s : σ) (ts : List Sign) (t : Tree) (us : List (Use R)) (rest : List Sign) → IsSort h rule n s ts t us rest → length rest < length ts
unfolding IsSort
sort_lengths h rule v zero s ts t us rest d = let e = lengths h false no_sort (λ s ts t us rest e. absurd e) (rule s) ts t us rest d in let k = ap toll (v s) in omega arith
sort_lengths h rule v (suc n) s ts t us rest d = let e = lengths h true (IsSort h rule n) (sort_lengths h rule v n) (rule s) ts t us rest d in let k = ap toll (v s) in omega arith
