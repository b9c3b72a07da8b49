-- How deep a token stands: the number of brackets and syntax nodes that are open there, whatever bound there is on it.
use Rattle.std.specs.Prelude.{◌≡◌, ℕ, zero, suc, ◌<◌, ◌≤◌, Bool, true, false, List, length, ◌⊎◌}
use Rattle.cv_syntax_trees.specs.Tree.{Tree}
use Rattle.cv_parse_notation.specs.declared.sign.Sign.{Sign}
use Rattle.cv_parse_notation.specs.Form.{Form, sign, script_word, word, number, nought, find_word, unnamed, other, note, both, may, many, either, made, level, deeper}
use Rattle.cv_parse_notation.specs.Spells.{Kind, is_mark, is_script_word, is_word, is_number, is_zero, is_find, is_unnamed, is_other, starts, next_is, Use, Spells, IsSort}

-- the next token is the first of the rest and of this kind, and so many levels are open there
pub record IsNext (kind : Kind → Bool) (depth own : ℕ) (tokens rest : List Sign) : Type 0 where
  pub place : tokens ≡ rest
  pub fits : next_is kind rest ≡ true
  pub levels : depth ≡ own

-- behind a phrase
pub record Behind {R A : Type 0} (P : List Sign → A → List (Use R) → List Sign → Type 0) (Holds : List Sign → Type 0) (tokens : List Sign) : Type 0 where
  pub value : A
  pub uses : List (Use R)
  pub mid : List Sign
  pub phrase : P tokens value uses mid
  pub holds : Holds mid

-- here, or behind one or more phrases
pub data InTurn {R A : Type 0} (P : List Sign → A → List (Use R) → List Sign → Type 0) (Holds : List Sign → Type 0) : List Sign → Type 0 where
  here : {tokens : List Sign} → Holds tokens → InTurn P Holds tokens
  later : {tokens mid : List Sign} (value : A) (uses : List (Use R)) → P tokens value uses mid → InTurn P Holds mid → InTurn P Holds tokens

-- The tokens before the rest begin a phrase of the form, the first of the rest goes on with it, and there so many levels
-- are open: sorts tells what spells a phrase one level down, below which token stands in one, and own is 1 where a
-- level of the form itself is open, and 0 elsewhere.
abbrev pub Stands : {R σ A : Type 0} → (σ → Kind → Bool) → (sorts : σ → List Sign → Tree → List (Use R) → List Sign → Type 0) → (below : σ → List Sign → List Sign → Type 0) → (depth own : ℕ) → Form R σ A → (tokens rest : List Sign) → Type 0
Stands h sorts below depth own (sign m) ts rest = IsNext (is_mark m) depth own ts rest
Stands h sorts below depth own (script_word w) ts rest = IsNext (is_script_word w) depth own ts rest
Stands h sorts below depth own (word r) ts rest = IsNext is_word depth own ts rest
Stands h sorts below depth own number ts rest = IsNext is_number depth own ts rest
Stands h sorts below depth own nought ts rest = IsNext is_zero depth own ts rest
Stands h sorts below depth own find_word ts rest = IsNext is_find depth own ts rest
Stands h sorts below depth own (unnamed r) ts rest = IsNext is_unnamed depth own ts rest
Stands h sorts below depth own other ts rest = IsNext is_other depth own ts rest
Stands h sorts below depth own (note r) ts rest = ⊥
Stands h sorts below depth own (both f g) ts rest = Stands h sorts below depth own f ts rest ⊎ Behind (Spells h true sorts f) (λ mid. Stands h sorts below depth own g mid rest) ts
Stands h sorts below depth own (may near f) ts rest = Stands h sorts below depth own f ts rest
Stands h sorts below depth own (many near f) ts rest = InTurn (Spells h true sorts f) (λ mid. Stands h sorts below depth own f mid rest) ts
Stands h sorts below depth own (either f g) ts rest = Stands h sorts below depth own f ts rest ⊎ (next_is (starts h f) ts ≡ false × Stands h sorts below depth own g ts rest)
Stands h sorts below depth own (made v f) ts rest = Stands h sorts below depth own f ts rest
Stands h sorts below depth own (level f) ts rest = Stands h sorts below depth 1 f ts rest
Stands h sorts below depth own (deeper s) ts rest = below s ts rest

-- The token stands at this depth in a phrase of the sort one level down. Phrases that end before it have n levels.
unfoldable pub StandsBelow : {R σ : Type 0} → (σ → Kind → Bool) → (σ → Form R σ Tree) → (n depth : ℕ) → σ → (tokens rest : List Sign) → Type 0
StandsBelow h rule n zero s ts rest = ⊥
StandsBelow h rule n (suc d) s ts rest = Stands h (IsSort h rule n) (StandsBelow h rule n d) d 0 (rule s) ts rest

abbrev pub StandsIn : {R σ A : Type 0} → (σ → Kind → Bool) → (σ → Form R σ Tree) → Form R σ A → (n depth : ℕ) → (tokens rest : List Sign) → Type 0
StandsIn h rule f n depth ts rest = Stands h (IsSort h rule n) (StandsBelow h rule n depth) depth 0 f ts rest

-- The tokens before the rest begin a phrase of the form, the first of the rest goes on with it, and so many brackets and
-- syntax nodes are open there; what ends before it has as many levels as it takes.
abbrev pub HasDepth : {R σ A : Type 0} → (σ → Kind → Bool) → (σ → Form R σ Tree) → Form R σ A → (tokens rest : List Sign) → (depth : ℕ) → Type 0
HasDepth h rule f tokens rest depth = (n : ℕ) × StandsIn h rule f n depth tokens rest

-- The depth reaches one more than the limit at the token where so many are left, and no token before it is deeper than the limit.
pub record IsTooDeep {R σ A : Type 0} (h : σ → Kind → Bool) (rule : σ → Form R σ Tree) (f : Form R σ A) (limit : ℕ) (tokens : List Sign) (left : ℕ) : Type 0 where
  pub rest : List Sign
  pub at : left ≡ length rest
  pub deep : HasDepth h rule f tokens rest (suc limit)
  pub first : (earlier : List Sign) (d : ℕ) → HasDepth h rule f tokens earlier d → length rest < length earlier → d ≤ limit
