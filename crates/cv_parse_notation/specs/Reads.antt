-- Reading from left to right by the next token: a value, the uses of names and the tokens behind it, or the first fault.
use Rattle.std.specs.Prelude.{ℕ, zero, suc, Bool, true, false, List, [], ◌∷◌, ◌++◌, length, Some, None, Result, Ok, Err}
use Rattle.cv_syntax_trees.specs.Tree.{Tree}
use Rattle.cv_parse_notation.specs.declared.script.ScriptWord.{ScriptWord}
use Rattle.cv_parse_notation.specs.declared.sign.Mark.{Mark}
use Rattle.cv_parse_notation.specs.declared.sign.Sign.{Sign}
use Rattle.cv_parse_notation.specs.declared.sign.Sign.TheVariants as token
use Rattle.cv_parse_notation.specs.Form.{Form, sign, script_word, word, number, nought, find_word, unnamed, other, note, both, may, many, either, made, level, deeper}
use Rattle.cv_parse_notation.specs.Spells.{Kind, kind_of, is_mark, is_script_word, is_other, starts, next_is, Use, used}

-- a fault, and how many tokens are left at the one that it names
pub data Fault : Type 0 where
  Syntax : (left : ℕ) → Fault
  Nesting : (left : ℕ) → Fault

pub record Found (R A : Type 0) : Type 0 where
  pub value : A
  pub uses : List (Use R)
  pub rest : List Sign

abbrev pub Read : Type 0 → Type 0 → Type 0
Read R A = Result (Found R A) Fault

abbrev pub Reader : Type 0 → Type 0 → Type 0
Reader R A = List Sign → Read R A

infixl 10 ◌>>=◌
abbrev pub ◌>>=◌ : {R A B : Type 0} → Read R A → (Found R A → Read R B) → Read R B
(Ok x) >>= f = f x
(Err e) >>= f = Err e

abbrev pub found : {R A : Type 0} → A → List (Use R) → List Sign → Read R A
found a us rest = Ok (record { value = a; uses = us; rest = rest })

abbrev pub pick : {R A : Type 0} → Bool → Reader R A → Reader R A → Reader R A
pick true p q ts = p ts
pick false p q ts = q ts

abbrev pub no_syntax : {R A : Type 0} → Reader R A
no_syntax ts = Err (Syntax (length ts))

abbrev pub no_level : {R A : Type 0} → Reader R A
no_level ts = Err (Nesting (length ts))

abbrev pub read_sign : {R : Type 0} → Mark → Reader R (Unit {0})
read_sign m [] = Err (Syntax 0)
read_sign m (t ∷ ts) = pick (is_mark m (kind_of t)) (λ us. found tt [] ts) no_syntax (t ∷ ts)

abbrev pub read_script_word : {R : Type 0} → ScriptWord → Reader R (Unit {0})
read_script_word w [] = Err (Syntax 0)
read_script_word w (t ∷ ts) = pick (is_script_word w (kind_of t)) (λ us. found tt [] ts) no_syntax (t ∷ ts)

abbrev pub read_word : {R : Type 0} → R → Reader R ℕ
read_word r (token.Word x w ∷ ts) = found x (used r x (token.Word x w ∷ ts)) ts
read_word r ts = Err (Syntax (length ts))

abbrev pub read_number : {R : Type 0} → Reader R ℕ
read_number (token.Number v ∷ ts) = found v [] ts
read_number ts = Err (Syntax (length ts))

abbrev pub read_nought : {R : Type 0} → Reader R (Unit {0})
read_nought (token.Number zero ∷ ts) = found tt [] ts
read_nought ts = Err (Syntax (length ts))

abbrev pub read_find : {R : Type 0} → Reader R ℕ
read_find (token.Find k ∷ ts) = found k [] ts
read_find ts = Err (Syntax (length ts))

abbrev pub read_unnamed : {R : Type 0} → R → Reader R ℕ
read_unnamed r (token.Unnamed x ∷ ts) = found x (used r x (token.Unnamed x ∷ ts)) ts
read_unnamed r ts = Err (Syntax (length ts))

abbrev pub read_other : {R : Type 0} → Reader R (Unit {0})
read_other [] = Err (Syntax 0)
read_other (t ∷ ts) = pick (is_other (kind_of t)) (λ us. found tt [] ts) no_syntax (t ∷ ts)

abbrev pub nothing : {R A : Type 0} → A → Reader R A
nothing a ts = found a [] ts

abbrev pub joined : {R A B : Type 0} → Found R A → Found R B → Read R (A × B)
joined x y = found (x.value, y.value) (x.uses ++ y.uses) y.rest

abbrev pub one_more : {R A : Type 0} → Found R A → Found R (List A) → Read R (List A)
one_more x y = found (x.value ∷ y.value) (x.uses ++ y.uses) y.rest

abbrev pub mapped : {R A B : Type 0} → (A → B) → Found R A → Read R B
mapped v x = found (v x.value) x.uses x.rest

-- n bounds how many
abbrev pub read_many : {R A : Type 0} → (Kind → Bool) → Reader R A → ℕ → Reader R (List A)
read_many begins p zero ts = found [] [] ts
read_many begins p (suc n) ts = pick (next_is begins ts) (λ us. p us >>= λ x. read_many begins p n x.rest >>= one_more x) (nothing []) ts

abbrev pub reads : {R σ A : Type 0} → (σ → Kind → Bool) → Bool → (σ → Reader R Tree) → Form R σ A → Reader R A
reads h room below (sign m) ts = read_sign m ts
reads h room below (script_word w) ts = read_script_word w ts
reads h room below (word r) ts = read_word r ts
reads h room below number ts = read_number ts
reads h room below nought ts = read_nought ts
reads h room below find_word ts = read_find ts
reads h room below (unnamed r) ts = read_unnamed r ts
reads h room below other ts = read_other ts
reads h room below (note r) ts = found (length ts) (used r 0 ts) ts
reads h room below (both f g) ts = reads h room below f ts >>= λ x. reads h room below g x.rest >>= joined x
reads h room below (may near f) ts = pick (next_is (starts h f) ts) (λ us. reads h room below f us >>= mapped Some) (nothing None) ts
reads h room below (many near f) ts = read_many (starts h f) (reads h room below f) (length ts) ts
reads h room below (either f g) ts = pick (next_is (starts h f) ts) (reads h room below f) (reads h room below g) ts
reads h room below (made v f) ts = reads h room below f ts >>= mapped v
reads h room below (level f) ts = pick room (reads h room below f) (pick (next_is (starts h f) ts) no_level no_syntax) ts
reads h room below (deeper s) ts = below s ts

abbrev pub too_deep : {R σ : Type 0} → (σ → Kind → Bool) → σ → Reader R Tree
too_deep h s ts = pick (next_is (h s) ts) no_level no_syntax ts

-- what reads a phrase of the sort with n levels left
unfoldable pub read_sort : {R σ : Type 0} → (σ → Kind → Bool) → (σ → Form R σ Tree) → ℕ → σ → Reader R Tree
read_sort h rule zero s ts = reads h false (too_deep h) (rule s) ts
read_sort h rule (suc n) s ts = reads h true (read_sort h rule n) (rule s) ts
