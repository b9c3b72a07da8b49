-- The expansion of a file, use by use.
use Rattle.std.proofs.Common.{◌≡◌, ℕ, zero, suc, ◌+◌, ◌-◌, ◌*◌, ◌/◌, ◌<◌, ◌≤◌, ◌==◌, if◌then◌else◌, List, [], ◌∷◌, ◌++◌, length, drop, get_or, Option, Some, None, refl, eq-eqb, ap, sym, ◌∙◌, subst, arith}
use Rattle.std.specs.Prelude.{slice_range}
use Rattle.std.proofs.lemmas.Bool.{ne_eqb}
use Rattle.std.proofs.lemmas.List.{append_assoc, length-append, length-drop, length-map, length-take-le, length_push}
use Rattle.cv_lex.specs.Lexis.{Token, end_token}
use Rattle.cv_library.specs.declared.error.ExpandError.{ExpandError}
use Rattle.cv_library.specs.declared.error.ExpandError.TheVariants.{Count}
use Rattle.cv_library.specs.declared.forms.Place.{Place}
use Rattle.cv_library.specs.declared.uses.Use.{Use}
use Rattle.cv_library.specs.Heads.{listed}
use Rattle.cv_library.specs.Libraries.{Definition, definition_at, parameters_at, text_of}
use Rattle.cv_library.specs.Expansions.{arguments, body_for, defined, earlier_fault, fault_by, fault_of, first_fault, stands_for, used_name, written}
use Rattle.cv_library.specs.Places.{AreInOrder, IsInside, IsUseInside}
use Rattle.cv_library.specs.Written.{Adds, body_len}
use Rattle.cv_library.proofs.Adding.{adds_both}
use Rattle.cv_library.proofs.Lists.{length_alternate}

-- why a use can't be expanded

pub fault_count : (library : List Definition) (ts us : List Token) (u : Use) (p : Place) (name : List ℕ) → name ≡ used_name us u → Some (definition_at ts p) ≡ defined library name
    → (if (u.dot - (u.word + 3)) / 2 == (p.brace - (p.word + 3)) / 2 then None else Some (Count (u.word + 1))) ≡ fault_of library us u
fault_count library ts us u p name e d =
    let many : (p.brace - (p.word + 3)) / 2 ≡ length (parameters_at ts p) = sym (length-map (listed ts p.word p.brace) text_of ∙ length_alternate ts (p.word + 3) ((p.brace - (p.word + 3)) / 2)) in
    let given : (u.dot - (u.word + 3)) / 2 ≡ length (arguments us u) = sym (length_alternate us (u.word + 3) ((u.dot - (u.word + 3)) / 2)) in
    (λ i. if given i == many i then None else Some (Count (u.word + 1)))
    ∙ ap (fault_by us u) d ∙ ap (λ n. fault_by us u (defined library n)) e

module _ (library : List Definition) (ts : List Token) (us rest : List Use) (u : Use) (i : ℕ) (here : drop i us ≡ u ∷ rest) where
  pub faults_more : None ≡ fault_of library ts u → first_fault library ts (drop i us) ≡ first_fault library ts us → first_fault library ts rest ≡ first_fault library ts us
  unfolding first_fault
  faults_more e h = ap (λ o. earlier_fault o (first_fault library ts rest)) e ∙ ap (first_fault library ts) (sym here) ∙ h

  pub fault_first : (e : ExpandError) → Some e ≡ fault_of library ts u → first_fault library ts (drop i us) ≡ first_fault library ts us → Some e ≡ first_fault library ts us
  unfolding first_fault
  fault_first e f h = ap (λ o. earlier_fault o (first_fault library ts rest)) f ∙ ap (first_fault library ts) (sym here) ∙ h

pub faults_none : (library : List Definition) (ts : List Token) (us : List Use) (i : ℕ) → drop i us ≡ [] → first_fault library ts (drop i us) ≡ first_fault library ts us → None ≡ first_fault library ts us
unfolding first_fault
faults_none library ts us i none h = ap (first_fault library ts) (sym none) ∙ h

-- how many tokens there are

pub length_body : (ts : List Token) (number : ℕ) (u : Use) (o : Option Definition) → length (body_for ts number u o) ≡ body_len o
length_body ts number u None = refl
length_body ts number u (Some d) = length-map d.body _

pub length_range : (ts : List Token) (from to : ℕ) → from ≤ to → to ≤ length ts → length (slice_range ts from to) ≡ to - from
length_range ts from to h l = length-take-le (to - from) (drop from ts) (omega (arith, length-drop from ts))

-- as many as its body has stand for a use of a definition, and none for one of an unknown name
pub body_many : (library : List Definition) (ts us : List Token) (u : Use) (p : Place) (name : List ℕ) → IsInside ts p → name ≡ used_name us u → Some (definition_at ts p) ≡ defined library name → (number : ℕ) → p.end - (p.brace + 1) ≡ length (stands_for library us number u)
body_many library ts us u p name inside e d number =
    sym (length_body us number u (Some (definition_at ts p)) ∙ length_range ts (p.brace + 1) p.end (omega (arith, inside.body)) (omega (arith, inside.last)))
    ∙ ap (λ o. length (body_for us number u o)) (d ∙ ap (defined library) e)

pub body_none : (library : List Definition) (us : List Token) (u : Use) (name : List ℕ) → name ≡ used_name us u → None ≡ defined library name → (number : ℕ) → 0 ≡ length (stands_for library us number u)
body_none library us u name e d number = ap (λ o. length (body_for us number u o)) (d ∙ ap (defined library) e)

length_used : (library : List Definition) (ts : List Token) (from number : ℕ) (u : Use) (us : List Use) → from ≤ u.word → u.word ≤ length ts → length (written library ts from number (u ∷ us)) ≡ (u.word - from) + (length (stands_for library ts number u) + length (written library ts (u.dot + 1) (number + 1) us))
unfolding written
length_used library ts from number u us h l =
    let text = slice_range ts from u.word in
    let body = stands_for library ts number u in
    let rest = written library ts (u.dot + 1) (number + 1) us in
    omega (arith, length-append (text ++ body) rest, length-append text body, length_range ts from u.word h l)

length_last : (library : List Definition) (ts : List Token) (from number : ℕ) → length (written library ts from number []) ≡ length ts - from
unfolding written
length_last library ts from number = length-drop from ts

-- each use stands among the tokens
pub use_at : (ts : List Token) (from : ℕ) (us : List Use) (i : ℕ) (d : Use) → AreInOrder ts from us → i < length us → IsUseInside ts from (get_or us i d)
use_at ts from [] i d o h = absurd (omega arith)
use_at ts from (u ∷ us) zero d o h = o.0
use_at ts from (u ∷ us) (suc i) d o h =
    let behind = use_at ts (u.dot + 1) us i d o.1 (omega arith) in
    record { word = omega (arith, behind.word, o.0.word, o.0.head); head = behind.head; last = behind.last }

-- so many tokens stand before a token, behind so many uses
pub record IsCounted (library : List Definition) (ts : List Token) (us : List Use) (count from i : ℕ) : Type 0 where
  pub all : count + length (written library ts from (i + 1) (drop i us)) ≡ length (written library ts 0 1 us)
  pub order : AreInOrder ts from (drop i us)
  pub few : count ≤ from + i * 4294967296
  pub uses : 2 * i ≤ from
  pub within : from < length ts

pub counted_none : (library : List Definition) (ts : List Token) (us : List Use) → 0 < length ts → AreInOrder ts 0 us → IsCounted library ts us 0 0 0
counted_none library ts us h o = record { all = omega arith; order = o; few = omega arith; uses = omega arith; within = h }

module _ (library : List Definition) (ts : List Token) (us : List Use) (count from i : ℕ) (c : IsCounted library ts us count from i) where
  pub use_inside : (u : Use) (rest : List Use) → drop i us ≡ u ∷ rest → IsUseInside ts from u
  use_inside u rest here = (subst (AreInOrder ts from) here c.order).0

  pub counted_more : (u : Use) (n : ℕ) → drop i us ≡ u ∷ drop (i + 1) us → n ≡ length (stands_for library ts (i + 1) u) → n < 4294967296 → IsCounted library ts us (count + (u.word - from + n)) (u.dot + 1) (i + 1)
  counted_more u n here many small =
      let o = subst (AreInOrder ts from) here c.order in
      let before : u.word ≤ length ts = omega (arith, o.0.last, o.0.head) in
      let step = ap (λ l. length (written library ts from (i + 1) l)) here ∙ length_used library ts from (i + 1) u (drop (i + 1) us) o.0.word before in
      record {
        all = omega (arith, c.all, step, many);
        order = o.1;
        few = omega (arith, c.few, o.0.word, o.0.head, small);
        uses = omega (arith, c.uses, o.0.word, o.0.head);
        within = omega (arith, o.0.last);
      }

  pub counted_all : drop i us ≡ [] → count + (length ts - 1 - from) + 1 ≡ length (written library ts 0 1 us)
  counted_all none =
      let step = ap (λ l. length (written library ts from (i + 1) l)) none ∙ length_last library ts from (i + 1) in
      omega (arith, c.all, step, c.within)

-- what is written before a token, behind so many uses
pub record IsPut (library : List Definition) (ts : List Token) (us : List Use) (end : ℕ) (out : List Token) (from i : ℕ) : Type 0 where
  pub front : List Token
  pub out_is : out ≡ front ++ end_token end ∷ []
  pub all : front ++ written library ts from (i + 1) (drop i us) ≡ written library ts 0 1 us
  pub order : AreInOrder ts from (drop i us)
  pub uses : i ≤ from
  pub within : from < length ts

module _ (library : List Definition) (ts : List Token) (us : List Use) (end : ℕ) (out : List Token) (from i : ℕ) (c : IsPut library ts us end out from i) where
  long : length out ≡ length c.front + 1
  long = ap length c.out_is ∙ length_push c.front (end_token end)

  -- there is room for what stands for the next use
  pub room_more : (u : Use) → drop i us ≡ u ∷ drop (i + 1) us → length out + (u.word - from) + length (stands_for library ts (i + 1) u) ≤ length (written library ts 0 1 us) + 1
  room_more u here =
      let o = subst (AreInOrder ts from) here c.order in
      let before : u.word ≤ length ts = omega (arith, o.0.last, o.0.head) in
      let step = ap (λ l. length (written library ts from (i + 1) l)) here ∙ length_used library ts from (i + 1) u (drop (i + 1) us) o.0.word before in
      omega (arith, long, sym (ap length c.all) ∙ length-append c.front (written library ts from (i + 1) (drop i us)), step)

  pub put_more : (u : Use) (new : List Token) → drop i us ≡ u ∷ drop (i + 1) us → Adds out (slice_range ts from u.word ++ stands_for library ts (i + 1) u) new → IsPut library ts us end new (u.dot + 1) (i + 1)
  unfolding written
  put_more u new here adds =
      let o = subst (AreInOrder ts from) here c.order in
      let more = slice_range ts from u.word ++ stands_for library ts (i + 1) u in
      record {
        front = c.front ++ more;
        out_is = adds c.front end c.out_is;
        all = append_assoc c.front more (written library ts (u.dot + 1) (i + 1 + 1) (drop (i + 1) us)) ∙ ap (λ l. c.front ++ written library ts from (i + 1) l) (sym here) ∙ c.all;
        order = o.1;
        uses = omega (arith, c.uses, o.0.word, o.0.head);
        within = omega (arith, o.0.last);
      }

  pub room_last : drop i us ≡ [] → length out + (length ts - 1 - from) ≡ length (written library ts 0 1 us)
  room_last none =
      let step = ap (λ l. length (written library ts from (i + 1) l)) none ∙ length_last library ts from (i + 1) in
      omega (arith, long, sym (ap length c.all) ∙ length-append c.front (written library ts from (i + 1) (drop i us)), step, c.within)

  pub put_all : (new : List Token) (last : ℕ) → drop i us ≡ [] → drop from ts ≡ slice_range ts from last ++ end_token end ∷ [] → Adds out (slice_range ts from last) new → written library ts 0 1 us ≡ new
  unfolding written
  put_all new last none ends adds =
      sym c.all ∙ ap (λ l. c.front ++ written library ts from (i + 1) l) none ∙ ap (λ l. c.front ++ l) ends
      ∙ sym (append_assoc c.front (slice_range ts from last) (end_token end ∷ [])) ∙ sym (adds c.front end c.out_is)

-- the same by the numbers of names

pub fault_same : (library : List Definition) (ts us : List Token) (u : Use) (p : Place) (name : List ℕ) → name ≡ used_name us u → Some (definition_at ts p) ≡ defined library name → (u.dot - (u.word + 3)) / 2 ≡ (p.brace - (p.word + 3)) / 2 → None ≡ fault_of library us u
fault_same library ts us u p name e d h =
    ap (λ b. if b then None else Some (Count (u.word + 1))) (sym (eq-eqb ((u.dot - (u.word + 3)) / 2) ((p.brace - (p.word + 3)) / 2) h)) ∙ fault_count library ts us u p name e d

pub fault_other : (library : List Definition) (ts us : List Token) (u : Use) (p : Place) (name : List ℕ) → name ≡ used_name us u → Some (definition_at ts p) ≡ defined library name → ((u.dot - (u.word + 3)) / 2 ≡ (p.brace - (p.word + 3)) / 2 → ⊥) → Some (Count (u.word + 1)) ≡ fault_of library us u
fault_other library ts us u p name e d h =
    ap (λ b. if b then None else Some (Count (u.word + 1))) (sym (ne_eqb ((u.dot - (u.word + 3)) / 2) ((p.brace - (p.word + 3)) / 2) h)) ∙ fault_count library ts us u p name e d

-- what is written for a use

-- a use that stands behind a token stands behind the first, too
pub inside_any : (ts : List Token) (from : ℕ) (u : Use) → IsUseInside ts from u → IsUseInside ts 0 u
inside_any ts from u i = record { word = omega arith; head = i.head; last = i.last }

pub use_put : (library : List Definition) (ts : List Token) (number : ℕ) (u : Use) (name : List ℕ) (o : Option Definition) (text old mid new : List Token) → name ≡ used_name ts u → o ≡ defined library name → Adds old text mid → Adds mid (body_for ts number u o) new → Adds old (text ++ stands_for library ts number u) new
use_put library ts number u name o text old mid new e d f g =
    subst (λ l. Adds old (text ++ l) new) (ap (body_for ts number u) (d ∙ ap (defined library) e)) (adds_both old mid new text (body_for ts number u o) f g)
