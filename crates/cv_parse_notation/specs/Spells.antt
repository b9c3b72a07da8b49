-- What the forms mean: which tokens spell a phrase with a value, and which uses of names it has.
use Rattle.std.specs.Prelude.{◌≡◌, ℕ, zero, suc, Bool, true, false, ◌==◌, ◌&&◌, ◌||◌, not, IsTrue, List, [], ◌∷◌, ◌++◌, length, Option, Some, None, ◌⊎◌}
use Rattle.cv_syntax_trees.specs.Tree.{Tree}
use Rattle.cv_parse_notation.specs.declared.script.ScriptWord.{ScriptWord}
use Rattle.cv_parse_notation.specs.declared.sign.Mark.{Mark}
use Rattle.cv_parse_notation.specs.declared.sign.Sign.{Sign}
use Rattle.cv_parse_notation.specs.declared.sign.Sign.TheVariants as token
use Rattle.cv_parse_notation.specs.declared.sign.Mark.TheVariants as mark
use Rattle.cv_parse_notation.specs.Marks.{same_mark}
use Rattle.cv_parse_notation.specs.ScriptWords.{same_word}
use Rattle.cv_parse_notation.specs.Form.{Form, sign, script_word, word, number, nought, find_word, unnamed, other, note, both, may, many, either, made, level, deeper}

-- the kinds of tokens that a grammar tells apart
pub data Kind : Type 0 where
  AWord : ScriptWord → Kind
  ANumber Zero AFind AnUnnamed : Kind
  AMark : Mark → Kind

abbrev pub number_kind : ℕ → Kind
number_kind zero = Zero
number_kind (suc n) = ANumber

abbrev pub kind_of : Sign → Kind
kind_of (token.Word x w) = AWord w
kind_of (token.Number v) = number_kind v
kind_of (token.Find k) = AFind
kind_of (token.Unnamed x) = AnUnnamed
kind_of (token.Mark m) = AMark m

abbrev pub kind_code : Kind → ℕ
kind_code (AWord w) = 0
kind_code ANumber = 1
kind_code Zero = 2
kind_code AFind = 3
kind_code AnUnnamed = 4
kind_code (AMark m) = 5

abbrev pub is_mark : Mark → Kind → Bool
is_mark m (AMark k) = same_mark k m
is_mark m k = false

abbrev pub is_script_word : ScriptWord → Kind → Bool
is_script_word w (AWord v) = same_word v w
is_script_word w k = false

abbrev pub is_word : Kind → Bool
is_word k = kind_code k == 0

abbrev pub is_zero : Kind → Bool
is_zero k = kind_code k == 2

abbrev pub is_number : Kind → Bool
is_number k = (kind_code k == 1) || (kind_code k == 2)

abbrev pub is_find : Kind → Bool
is_find k = kind_code k == 3

abbrev pub is_unnamed : Kind → Bool
is_unnamed k = kind_code k == 4

abbrev pub is_other : Kind → Bool
is_other k = not (is_mark mark.OpenBrace k || is_mark mark.CloseBrace k)

-- a phrase of the form may have no token
abbrev pub may_vanish : {R σ A : Type 0} → Form R σ A → Bool
may_vanish (sign m) = false
may_vanish (script_word w) = false
may_vanish (word r) = false
may_vanish number = false
may_vanish nought = false
may_vanish find_word = false
may_vanish (unnamed r) = false
may_vanish other = false
may_vanish (note r) = true
may_vanish (both f g) = may_vanish f && may_vanish g
may_vanish (may near f) = true
may_vanish (many near f) = true
may_vanish (either f g) = may_vanish f || may_vanish g
may_vanish (made k f) = may_vanish f
may_vanish (level f) = may_vanish f
may_vanish (deeper s) = false

-- of two phrases, where the first may vanish or not
abbrev pub starts_both : Bool → (Kind → Bool) → (Kind → Bool) → Kind → Bool
starts_both true p q k = p k || q k
starts_both false p q k = p k

-- a phrase of the form may begin with a token of the kind, where the sorts do so
abbrev pub starts : {R σ A : Type 0} → (σ → Kind → Bool) → Form R σ A → Kind → Bool
starts h (sign m) k = is_mark m k
starts h (script_word w) k = is_script_word w k
starts h (word r) k = is_word k
starts h number k = is_number k
starts h nought k = is_zero k
starts h find_word k = is_find k
starts h (unnamed r) k = is_unnamed k
starts h other k = is_other k
starts h (note r) k = false
starts h (both f g) k = starts_both (may_vanish f) (starts h f) (starts h g) k
starts h (may near f) k = starts h f k
starts h (many near f) k = starts h f k
starts h (either f g) k = starts h f k || starts h g k
starts h (made v f) k = starts h f k
starts h (level f) k = starts h f k
starts h (deeper s) k = h s k

abbrev pub next_is : (Kind → Bool) → List Sign → Bool
next_is p [] = false
next_is p (t ∷ ts) = p (kind_of t)

-- a use of a name: what for, its number, and how many tokens are left where it stands
pub record Use (R : Type 0) : Type 0 where
  pub role : R
  pub name : ℕ
  pub left : ℕ

abbrev pub used : {R : Type 0} → R → ℕ → List Sign → List (Use R)
used r x ts = record { role = r; name = x; left = length ts } ∷ []

-- tokens, the value of the phrase at their front, its uses of names, and the tokens behind it
abbrev pub Relation : Type 0 → Type 0 → Type 1
Relation R A = List Sign → A → List (Use R) → List Sign → Type 0

-- one token
pub record IsToken {R : Type 0} (t : Sign) (u : List (Use R)) (ts : List Sign) (us : List (Use R)) (rest : List Sign) : Type 0 where
  pub tokens : ts ≡ t ∷ rest
  pub uses : us ≡ u

-- an identifier, whichever word of a script it is
pub record IsWord {R : Type 0} (x : ℕ) (u : List (Use R)) (ts : List Sign) (us : List (Use R)) (rest : List Sign) : Type 0 where
  pub script : ScriptWord
  pub tokens : ts ≡ token.Word x script ∷ rest
  pub uses : us ≡ u

-- this word of a script, whichever number its text has
pub record IsScriptWord {R : Type 0} (w : ScriptWord) (ts : List Sign) (us : List (Use R)) (rest : List Sign) : Type 0 where
  pub text : ℕ
  pub tokens : ts ≡ token.Word text w ∷ rest
  pub uses : us ≡ []

pub record IsNothing {R : Type 0} (u : List (Use R)) (ts : List Sign) (us : List (Use R)) (rest : List Sign) : Type 0 where
  pub tokens : ts ≡ rest
  pub uses : us ≡ u

-- a phrase, and one behind it
pub record Follow {R A B : Type 0} (P : List Sign → A → List (Use R) → List Sign → Type 0) (Q : List Sign → B → List (Use R) → List Sign → Type 0) (ts : List Sign) (a : A) (b : B) (us : List (Use R)) (rest : List Sign) : Type 0 where
  pub mid : List Sign
  pub front : List (Use R)
  pub back : List (Use R)
  pub first : P ts a front mid
  pub second : Q mid b back rest
  pub uses : us ≡ front ++ back

abbrev pub Perhaps : {R A : Type 0} → (List Sign → A → List (Use R) → List Sign → Type 0) → Bool → (Kind → Bool) → List Sign → Option A → List (Use R) → List Sign → Type 0
Perhaps P near begins ts None us rest = IsNothing [] ts us rest × (IsTrue near → next_is begins ts ≡ false)
Perhaps P near begins ts (Some a) us rest = P ts a us rest

abbrev pub Each : {R A : Type 0} → (List Sign → A → List (Use R) → List Sign → Type 0) → Bool → (Kind → Bool) → List Sign → List A → List (Use R) → List Sign → Type 0
Each P near begins ts [] us rest = IsNothing [] ts us rest × (IsTrue near → next_is begins ts ≡ false)
Each P near begins ts (a ∷ l) us rest = Follow P (λ mid b back end. Each P near begins mid l back end) ts a l us rest

-- What spells a phrase: h says how the sorts begin, room whether a level is left, and below what spells a sort one level down.
abbrev pub Spells : {R σ A : Type 0} → (σ → Kind → Bool) → Bool → (σ → Relation R Tree) → Form R σ A → Relation R A
Spells h room below (sign m) ts a us rest = IsToken (token.Mark m) [] ts us rest
Spells h room below (script_word w) ts a us rest = IsScriptWord w ts us rest
Spells h room below (word r) ts a us rest = IsWord a (used r a ts) ts us rest
Spells h room below number ts a us rest = IsToken (token.Number a) [] ts us rest
Spells h room below nought ts a us rest = IsToken (token.Number 0) [] ts us rest
Spells h room below find_word ts a us rest = IsToken (token.Find a) [] ts us rest
Spells h room below (unnamed r) ts a us rest = IsToken (token.Unnamed a) (used r a ts) ts us rest
Spells h room below other ts a us rest = (t : Sign) × (is_other (kind_of t) ≡ true) × IsToken t [] ts us rest
Spells h room below (note r) ts a us rest = (a ≡ length ts) × IsNothing (used r 0 ts) ts us rest
Spells h room below (both f g) ts a us rest = Follow (Spells h room below f) (Spells h room below g) ts a.0 a.1 us rest
Spells h room below (may near f) ts a us rest = Perhaps (Spells h room below f) near (starts h f) ts a us rest
Spells h room below (many near f) ts a us rest = Each (Spells h room below f) near (starts h f) ts a us rest
Spells h room below (either f g) ts a us rest = Spells h room below f ts a us rest ⊎ (next_is (starts h f) ts ≡ false × Spells h room below g ts a us rest)
Spells h room below (made {A = A} v f) ts b us rest = (a : A) × Spells h room below f ts a us rest × (v a ≡ b)
Spells h room below (level f) ts a us rest = IsTrue room × Spells h room below f ts a us rest
Spells h room below (deeper s) ts a us rest = below s ts a us rest

abbrev pub no_sort : {R σ : Type 0} → σ → Relation R Tree
no_sort s ts a us rest = ⊥

-- with n levels left, these tokens spell a phrase of the sort
unfoldable pub IsSort : {R σ : Type 0} → (σ → Kind → Bool) → (σ → Form R σ Tree) → ℕ → σ → Relation R Tree
IsSort h rule zero s ts a us rest = Spells h false no_sort (rule s) ts a us rest
IsSort h rule (suc n) s ts a us rest = Spells h true (IsSort h rule n) (rule s) ts a us rest

-- a repeated part has a token
abbrev pub is_steady : {R σ A : Type 0} → Form R σ A → Bool
is_steady (both f g) = is_steady f && is_steady g
is_steady (may near f) = is_steady f
is_steady (many near f) = not (may_vanish f) && is_steady f
is_steady (either f g) = is_steady f && is_steady g
is_steady (made k f) = is_steady f
is_steady (level f) = is_steady f
is_steady _ = true
