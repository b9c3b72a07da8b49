-- The laws of reading a phrase with nothing behind it, for each table of rules and each form that fits.
use Rattle.std.proofs.Common.{◌≡◌, ℕ, Bool, true, List, [], ◌∷◌, ◌++◌, length, Ok, Err, refl, ap, sym, ◌∙◌, subst}
use Rattle.cv_syntax_trees.specs.Tree.{Tree}
use Rattle.cv_parse_notation.specs.declared.sign.Sign.{Sign}
use Rattle.cv_parse_notation.specs.Form.{Form}
use Rattle.cv_parse_notation.specs.Spells.{Kind, Use, IsSort, is_steady}
use Rattle.cv_parse_notation.specs.Reads.{Syntax, Nesting, Found, Read, found, read_sort, ◌>>=◌}
use Rattle.cv_parse_notation.specs.Fits.{fits, fitting}
use Rattle.cv_parse_notation.specs.Local.{SameFirst, LocalAt}
use Rattle.cv_parse_notation.specs.Whole.{SpellsWith, reads_with, ends_there, reads_whole, IsWhole, Dead}
use Rattle.cv_parse_notation.proofs.Sound.{sound, bind_ok}
use Rattle.cv_parse_notation.proofs.Complete.{complete}
use Rattle.cv_parse_notation.proofs.Sorts.{read_is_spelled, spelled_is_read, shorter, begins}
use Rattle.cv_parse_notation.proofs.Locality.{Local, local, takes_more, sort_local}

at_end : {R A : Type 0} (x y : Found R A) (l : List Sign) → x.rest ≡ l → ends_there x ≡ Ok y → (x ≡ y) × (x.rest ≡ [])
at_end x y [] e h = let i : ends_there x ≡ Ok x = rw e refl in (let j = sym i ∙ h in cc, e)
at_end x y (t ∷ ts) e h = let i : ends_there x ≡ Err (Syntax (length (t ∷ ts))) = rw e refl in absurd (let j = sym i ∙ h in cc)

module _ {R σ A : Type 0} (h t : σ → Kind → Bool) (rule : σ → Form R σ Tree) (w : (s : σ) → fitting h t rule s ≡ true) (f : Form R σ A) (fit : fits h t f ≡ true) (steady : is_steady f ≡ true) where
  form_sound : (n : ℕ) (ts : List Sign) (x : Found R A) → reads_with h rule f n ts ≡ Ok x → SpellsWith h rule f n ts x.value x.uses x.rest
  form_sound n ts x e = sound h true (IsSort h rule n) (shorter h t rule w n) (read_sort h rule n) (read_is_spelled h t rule w n) f steady ts x e

  form_complete : (n : ℕ) (ts : List Sign) (a : A) (us : List (Use R)) → SpellsWith h rule f n ts a us [] → reads_with h rule f n ts ≡ found a us []
  form_complete n ts a us d = complete h t true (IsSort h rule n) (shorter h t rule w n) (begins h t rule w n) (read_sort h rule n) (spelled_is_read h t rule w n) f fit ts a us [] d refl

  pub whole_sound : (n : ℕ) (ts : List Sign) (x : Found R A) → reads_whole h rule f n ts ≡ Ok x → SpellsWith h rule f n ts x.value x.uses []
  whole_sound n ts x e =
      let b = bind_ok (reads_with h rule f n ts) ends_there x e in
      let i = at_end b.0 x b.0.rest refl b.2 in
      let d = form_sound n ts b.0 b.1 in
      subst (λ y. SpellsWith h rule f n ts y.value y.uses []) i.0 (subst (λ l. SpellsWith h rule f n ts b.0.value b.0.uses l) i.1 d)

  pub whole_complete : (n : ℕ) (ts : List Sign) (a : A) (us : List (Use R)) → SpellsWith h rule f n ts a us [] → reads_whole h rule f n ts ≡ found a us []
  whole_complete n ts a us d = ap (λ r. r >>= ends_there) (form_complete n ts a us d)

  not_behind : (n : ℕ) (front : List Sign) (u : Sign) (rest : List Sign) (more : List Sign) → SameFirst (u ∷ rest) more → (y : Found R A) → reads_with h rule f n (front ++ more) ≡ Ok y → y.rest ≡ more → IsWhole h rule f n (front ++ more) → ⊥
  not_behind n front u rest [] s y e i d = s
  not_behind n front u rest (v ∷ more) s y e i d =
      let j = sym e ∙ form_complete n (front ++ v ∷ more) d.0 d.1 d.2 in
      let k : y ≡ record { value = d.0; uses = d.1; rest = [] } = cc in
      let m : [] ≡ v ∷ more = ap (λ (z : Found R A). z.rest) (sym k) ∙ i in
      cc

  dead_at : (n : ℕ) (ts : List Sign) (r : Read R A) (count : ℕ) → (r >>= ends_there) ≡ Err (Syntax count) → LocalAt (reads_with h rule f n) ts r → Dead (IsWhole h rule f n) ts count
  dead_at n ts (Err (Nesting k)) count e l = absurd (cc)
  dead_at n ts (Err (Syntax k)) count e l = record {
    front = l.0;
    rest = l.1;
    split = l.2;
    left = let i : count ≡ k = cc in let j : k ≡ length l.1 = cc in i ∙ j;
    none = λ more s d. let i = sym (form_complete n (l.0 ++ more) d.0 d.1 d.2) ∙ l.4 more s in cc;
  }
  dead_at n ts (Ok x) count e l = behind_phrase x.rest refl
    where
      behind_phrase : (rest : List Sign) → x.rest ≡ rest → Dead (IsWhole h rule f n) ts count
      behind_phrase [] i = absurd (let j : ends_there x ≡ Ok x = rw i refl in let k = sym j ∙ e in cc)
      behind_phrase (u ∷ us) i =
          let j : ends_there x ≡ Err (Syntax (length x.rest)) = rw i refl in
          let k = sym j ∙ e in
          record { front = l.0; rest = x.rest; split = l.1; left = let m : length x.rest ≡ count = cc in sym m; none = λ more s d. (let y = l.2 more s in not_behind n l.0 u us more (subst (λ z. SameFirst z more) i s) y.0 y.1 y.2 d) }

  form_local : (n : ℕ) → Local (reads_with h rule f n)
  form_local n = local h true (read_sort h rule n) (sort_local h t rule w n) (takes_more h t rule w n) f steady

  -- nothing that the form spells begins with the tokens through the one that a fault names
  pub syntax_is_final : (n : ℕ) (ts : List Sign) (count : ℕ) → reads_whole h rule f n ts ≡ Err (Syntax count) → Dead (IsWhole h rule f n) ts count
  syntax_is_final n ts count e = dead_at n ts (reads_with h rule f n ts) count e (form_local n ts)
