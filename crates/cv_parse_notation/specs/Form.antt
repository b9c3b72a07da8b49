-- The notation of the grammar: what may stand on the right of a production.
use Rattle.std.specs.Prelude.{ℕ, Bool, List, Option}
use Rattle.cv_syntax_trees.specs.Tree.{Tree}
use Rattle.cv_parse_notation.specs.declared.script.ScriptWord.{ScriptWord}
use Rattle.cv_parse_notation.specs.declared.sign.Mark.{Mark}

-- A phrase of each form has a value. R are the uses of names, σ the sorts of phrases one level down.
pub data Form (R σ : Type 0) : Type 0 → Type 1 where
  -- this word or symbol
  sign : Mark → Form R σ (Unit {0})
  -- this word of a script
  script_word : ScriptWord → Form R σ (Unit {0})
  -- an identifier, and what it is used for
  word : R → Form R σ ℕ
  number : Form R σ ℕ
  -- the number 0
  nought : Form R σ (Unit {0})
  find_word : Form R σ ℕ
  -- the word `collision` before `new`
  unnamed : R → Form R σ ℕ
  -- a token that is no brace
  other : Form R σ (Unit {0})
  -- no token, but something that is told about names; the value is the number of tokens left
  note : R → Form R σ ℕ
  both : {A B : Type 0} → Form R σ A → Form R σ B → Form R σ (A × B)
  -- [ ]; where near, the part is there wherever it can begin
  may : {A : Type 0} → (near : Bool) → Form R σ A → Form R σ (Option A)
  -- { }; where near, it goes on wherever the next part can begin
  many : {A : Type 0} → (near : Bool) → Form R σ A → Form R σ (List A)
  -- the first, or the second where the first can't begin
  either : {A : Type 0} → Form R σ A → Form R σ A → Form R σ A
  -- a value made of the phrase's
  made : {A B : Type 0} → (A → B) → Form R σ A → Form R σ B
  -- a phrase that opens a level at its first token
  level : {A : Type 0} → Form R σ A → Form R σ A
  -- a phrase one level down
  deeper : σ → Form R σ Tree

infixr 30 ◌&◌
abbrev pub ◌&◌ : {R σ A B : Type 0} → Form R σ A → Form R σ B → Form R σ (A × B)
f & g = both f g

-- a form behind a word or symbol
infixr 30 ◌▸◌
abbrev pub ◌▸◌ : {R σ A : Type 0} → Mark → Form R σ A → Form R σ A
m ▸ f = made (λ p. p.1) (both (sign m) f)

-- a form before a word or symbol
infixr 30 ◌◂◌
abbrev pub ◌◂◌ : {R σ A : Type 0} → Form R σ A → Mark → Form R σ A
f ◂ m = made (λ p. p.0) (both f (sign m))
