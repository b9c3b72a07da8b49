-- More levels take more phrases, with the same values.
use Rattle.std.proofs.Common.{ℕ, zero, suc, Bool, true, false, IsTrue, List, [], ◌∷◌, Option, Some, None, refl, inl, inr}
use Rattle.cv_syntax_trees.specs.Tree.{Tree}
use Rattle.cv_parse_notation.specs.declared.sign.Sign.{Sign}
use Rattle.cv_parse_notation.specs.Form.{Form, sign, script_word, word, number, nought, find_word, unnamed, other, note, both, may, many, either, made, level, deeper}
use Rattle.cv_parse_notation.specs.Spells.{Kind, starts, Use, Perhaps, Each, Spells, IsSort, no_sort}
use Rattle.cv_parse_notation.specs.Whole.{SpellsWith}

perhaps_more : {R A : Type 0} (P Q : List Sign → A → List (Use R) → List Sign → Type 0) (near : Bool) (k : Kind → Bool) → ((ts : List Sign) (a : A) (us : List (Use R)) (rest : List Sign) → P ts a us rest → Q ts a us rest) → (ts : List Sign) (o : Option A) (us : List (Use R)) (rest : List Sign) → Perhaps P near k ts o us rest → Perhaps Q near k ts o us rest
perhaps_more P Q near k up ts None us rest d = d
perhaps_more P Q near k up ts (Some a) us rest d = up ts a us rest d

each_more : {R A : Type 0} (P Q : List Sign → A → List (Use R) → List Sign → Type 0) (near : Bool) (k : Kind → Bool) → ((ts : List Sign) (a : A) (us : List (Use R)) (rest : List Sign) → P ts a us rest → Q ts a us rest) → (ts : List Sign) (l : List A) (us : List (Use R)) (rest : List Sign) → Each P near k ts l us rest → Each Q near k ts l us rest
each_more P Q near k up ts [] us rest d = d
each_more P Q near k up ts (a ∷ l) us rest d = record { mid = d.mid; front = d.front; back = d.back; first = up ts a d.front d.mid d.first; second = each_more P Q near k up d.mid l d.back rest d.second; uses = d.uses }

module _ {R σ : Type 0} (h : σ → Kind → Bool) (few more : Bool) (P Q : σ → List Sign → Tree → List (Use R) → List Sign → Type 0) (room : IsTrue few → IsTrue more) (up : (s : σ) (ts : List Sign) (t : Tree) (us : List (Use R)) (rest : List Sign) → P s ts t us rest → Q s ts t us rest) where
  spells_more : {A : Type 0} (f : Form R σ A) (ts : List Sign) (a : A) (us : List (Use R)) (rest : List Sign) → Spells h few P f ts a us rest → Spells h more Q f ts a us rest
  spells_more (sign m) ts a us rest d = d
  spells_more (script_word w) ts a us rest d = d
  spells_more (word r) ts a us rest d = d
  spells_more number ts a us rest d = d
  spells_more nought ts a us rest d = d
  spells_more find_word ts a us rest d = d
  spells_more (unnamed r) ts a us rest d = d
  spells_more other ts a us rest d = d
  spells_more (note r) ts a us rest d = d
  spells_more (both f g) ts a us rest d = record { mid = d.mid; front = d.front; back = d.back; first = spells_more f ts a.0 d.front d.mid d.first; second = spells_more g d.mid a.1 d.back rest d.second; uses = d.uses }
  spells_more (may near f) ts a us rest d = perhaps_more (Spells h few P f) (Spells h more Q f) near (starts h f) (spells_more f) ts a us rest d
  spells_more (many near f) ts a us rest d = each_more (Spells h few P f) (Spells h more Q f) near (starts h f) (spells_more f) ts a us rest d
  spells_more (either f g) ts a us rest d = elim d as (λ _. Spells h more Q (either f g) ts a us rest) [ inl e ↦ inl (spells_more f ts a us rest e) | inr e ↦ inr (e.0, spells_more g ts a us rest e.1) ]
  spells_more (made v f) ts a us rest d = (d.0, spells_more f ts d.0 us rest d.1, d.2)
  spells_more (level f) ts a us rest d = (room d.0, spells_more f ts a us rest d.1)
  spells_more (deeper s) ts a us rest d = up s ts a us rest d

module _ {R σ : Type 0} (h : σ → Kind → Bool) (rule : σ → Form R σ Tree) where
  sort_more : (n : ℕ) (s : σ) (ts : List Sign) (t : Tree) (us : List (Use R)) (rest : List Sign) → IsSort h rule n s ts t us rest → IsSort h rule (suc n) s ts t us rest
  unfolding IsSort
  sort_more zero s ts t us rest d = spells_more h false true no_sort (IsSort h rule zero) (λ _. refl) (λ s ts t us rest e. absurd e) (rule s) ts t us rest d
  sort_more (suc n) s ts t us rest d = spells_more h true true (IsSort h rule n) (IsSort h rule (suc n)) (λ e. e) (sort_more n) (rule s) ts t us rest d

  pub one_level_more : {A : Type 0} (f : Form R σ A) (n : ℕ) (ts : List Sign) (a : A) (us : List (Use R)) (rest : List Sign) → SpellsWith h rule f n ts a us rest → SpellsWith h rule f (suc n) ts a us rest
  one_level_more f n ts a us rest d = spells_more h true true (IsSort h rule n) (IsSort h rule (suc n)) (λ e. e) (sort_more n) f ts a us rest d
