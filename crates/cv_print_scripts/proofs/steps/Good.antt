-- What is shown of trees spells them, part by part.
use Rattle.std.proofs.Common.{◌≡◌, ℕ, zero, suc, ◌+◌, ◌≤◌, max, Bool, true, false, ◌&&◌, ◌||◌, ◌==◌, not, if◌then◌else◌, IsTrue, List, [], ◌∷◌, ◌++◌, length, map, Some, None, ◌⊎◌, inl, inr, refl, ap, sym, subst, ◌∙◌, arith}
use Rattle.std.proofs.lemmas.Bool.{and_from, eqb-true, eq-eqb, false_from_ne_true, not-true}
use Rattle.std.proofs.lemmas.List.{append_assoc, append-nil, length-append, map-append}
use Rattle.std.specs.List.{AllByRecursion}
use Rattle.cv_syntax_trees.proofs.lists.Tests.{and_first, and_second}
use Rattle.cv_syntax_trees.specs.declared.head.Head.{Head}
use Rattle.cv_syntax_trees.specs.Head.{code, same_head}
use Rattle.cv_syntax_trees.specs.Tree.{Tree, Empty, Node, chain}
use Rattle.cv_parse_notation.specs.declared.sign.Mark.{Mark}
use Rattle.cv_parse_notation.specs.declared.sign.Mark.TheVariants as mark
use Rattle.cv_parse_notation.specs.declared.sign.Sign.{Sign}
use Rattle.cv_parse_notation.specs.Form.{Form, both, either, level, made, many, may}
use Rattle.cv_parse_notation.specs.Fits.{within}
use Rattle.cv_parse_notation.specs.Spells.{Kind, AMark, is_mark, kind_of, may_vanish, next_is, starts, starts_both, Spells}
use Rattle.cv_parse_notation.proofs.Complete.{within_next}
use Rattle.cv_parse_notation.proofs.Sound.{same_mark_eq}
use Rattle.cv_parse_grammar.specs.declared.role.Role.{Role}
use Rattle.cv_parse_grammar.specs.Names.{Uses}
use Rattle.cv_parse_terms.specs.Gives.{positive}
use Rattle.cv_parse_tables.specs.Table.{Table, TableSort, TreesForm, many_form, maybe_form, never, table_heads}
use Rattle.cv_parse_tables.specs.Trees.{all_of, both_of, over, single}
use Rattle.cv_print_tables.specs.Layout.{Layout}
use Rattle.cv_print_tables.specs.Layout as lay
use Rattle.cv_print_tables.specs.Prints.{belongs, chain_items, is_text, next_belongs, node_items, single_items, takes}
use Rattle.cv_print_bytes.specs.terminals.Written.{opens}
use Rattle.cv_print_scripts.specs.steps.Apart.{Any, all_avoid, all_avoid_each, ends, firsts, is_bare, is_closed, is_counted, is_firm, one_is_first, trails}
use Rattle.cv_print_scripts.specs.steps.Shown.{Shown, Shows, Words, followed, one, opening, plain, repeated, shown, spoken}
use Rattle.cv_print_scripts.specs.steps.Trees.{Behind, JustOne, Makes}
use Rattle.cv_print_scripts.proofs.steps.Heads.{HeadIn, Stops, firsts_avoid, firsts_left, firsts_right, head_left, head_right, stops_at_end, stops_before, stops_parts}
use Rattle.cv_print_scripts.proofs.steps.Outer.{below_of}
use Rattle.cv_print_tables.proofs.Rows.{if_true, if_false}

-- trees that a layout takes begin so
abbrev pub Begins : Layout → List Tree → Type 0
Begins l [] = is_bare l ≡ true
Begins l (t ∷ ts) = HeadIn (firsts l) t

-- and belong to it by their head
abbrev pub FirmHead : Layout → Tree → Type 0
FirmHead l Empty = ⊥
FirmHead l (Node h a b) = (one_is_first (firsts l) h ≡ true) × (belongs l h ≡ true)

abbrev pub Firm : Layout → List Tree → Type 0
Firm l [] = ⊥
Firm l (t ∷ ts) = FirmHead l t

-- tests

case : (P : Bool → Type 0) (b : Bool) → (b ≡ true → P true) → (b ≡ false → P false) → P b
case P true f g = f refl
case P false f g = g refl

closed_before : (p : Kind → Bool) (ts : List Sign) → is_closed p ≡ true → next_is p ts ≡ true → next_is opens ts ≡ false
closed_before p [] c e = refl
closed_before p (t ∷ ts) c e = no_opening (kind_of t) e
  where
    no_mark : (m : Mark) (k : Kind) → not (p (AMark m)) ≡ true → p k ≡ true → is_mark m k ≡ true → ⊥
    no_mark m (AMark j) i e h = let s : j ≡ m = same_mark_eq j m h in let d : p (AMark m) ≡ true = subst (λ x. p (AMark x) ≡ true) s e in cc (d, not-true (p (AMark m)) i)
    no_mark m k i e h = cc

    or_no : (a b : Bool) → a ≡ false → b ≡ false → (a || b) ≡ false
    or_no true b e f = absurd (cc)
    or_no false b e f = f

    no_opening : (k : Kind) → p k ≡ true → opens k ≡ false
    no_opening k e =
        or_no (is_mark mark.Open k) (is_mark mark.OpenSquare k)
        (false_from_ne_true (is_mark mark.Open k) (no_mark mark.Open k (and_first (not (p (AMark mark.Open))) (not (p (AMark mark.OpenSquare))) c) e))
        (false_from_ne_true (is_mark mark.OpenSquare k) (no_mark mark.OpenSquare k (and_second (not (p (AMark mark.Open))) (not (p (AMark mark.OpenSquare))) c) e))

module _ (words : Words) (table : Table) where
  abbrev pub say : List Sign → List Sign
  say ts = map (spoken words) ts

  -- signs that are none, or begin a phrase
  abbrev pub Front : (Kind → Bool) → Bool → List Sign → Type 0
  Front k v [] = v ≡ true
  Front k v (s ∷ ss) = k (kind_of s) ≡ true

  -- the signs spell the value, with as many levels as they need
  pub record Spoken {A : Type 0} (f : Form Role TableSort A) (a : A) (x : Shown) : Type 0 where
    pub said : say x.signs ≡ x.signs
    pub front : Front (starts (table_heads table) f) (may_vanish f) x.signs
    pub spells : (m : ℕ) → x.levels ≤ m → (rest : List Sign) → (trails f ≡ true → next_is opens rest ≡ false) → say rest ≡ rest → (us : Uses) × Spells (table_heads table) (positive m) (below_of table m) f (x.signs ++ rest) a us rest

  -- A phrase, its layout, what is shown for it and which trees it makes belong to one another.
  pub record Good (f : TreesForm) (l : Layout) (p : Shows) (o : Makes) : Type 0 where
    pub begins : (xs : List Tree) → o xs → Begins l xs
    pub firm : (xs : List Tree) → o xs → is_firm l ≡ true → Firm l xs
    pub counts : (xs : List Tree) → o xs → is_counted l ≡ true → length xs ≡ takes l
    pub rest : (xs behind : List Tree) → o xs → Stops (ends l) behind → (p (xs ++ behind)).rest ≡ behind
    pub shows : (xs behind : List Tree) → o xs → Stops (ends l) behind → Spoken f xs (p (xs ++ behind))

  said_both : (ss ts : List Sign) → say ss ≡ ss → say ts ≡ ts → say (ss ++ ts) ≡ ss ++ ts
  said_both ss ts e i = map-append (spoken words) ss ts ∙ (ap (λ z. z ++ say ts) e ∙ ap (λ z. ss ++ z) i)

  pub turned : {A B : Type 0} {f : Form Role TableSort A} {v : A → B} {a : A} {b : B} {x : Shown} → Spoken f a x → v a ≡ b → Spoken (made v f) b x
  turned {a = a} p e = record { said = p.said; front = p.front; spells = λ m i rest s r. let d = p.spells m i rest s r in (d.0, (a, d.1, e)) }

  -- one tree

  module _ (f : TreesForm) (l : Layout) (q : Tree → Shown) (P : Tree → Type 0) (single : takes l ≡ 1) (heads : (t : Tree) → P t → HeadIn (firsts l) t) (firms : (t : Tree) → P t → is_firm l ≡ true → FirmHead l t) (shows : (t : Tree) → P t → Spoken f (t ∷ []) (q t)) where
    pub one_good : Good f l (one q) (JustOne P)
    one_good = record {
      begins = λ xs d. subst (Begins l) (sym d.1) (heads d.0 d.2);
      firm = λ xs d i. subst (Firm l) (sym d.1) (firms d.0 d.2 i);
      counts = λ xs d i. ap length d.1 ∙ sym single;
      rest = λ xs behind d s. ap (λ z. (one q (z ++ behind)).rest) d.1;
      shows = λ xs behind d s. let p = shows d.0 d.2 in subst (λ z. Spoken f z (one q (z ++ behind))) (sym d.1) (record { said = p.said; front = p.front; spells = p.spells });
    }

  -- a text

  module _ (f : TreesForm) (text : List ℕ) (signs : List Sign) (said : say signs ≡ signs) (front : Front (starts (table_heads table) f) (may_vanish f) signs) (spells : (m : ℕ) (rest : List Sign) → (us : Uses) × Spells (table_heads table) (positive m) (below_of table m) f (signs ++ rest) [] us rest) where
    pub text_good : Good f (lay.text text) (plain signs) (λ ts. ts ≡ [])
    text_good = record {
      begins = λ xs d. subst (Begins (lay.text text)) (sym d) refl;
      firm = λ xs d i. absurd (cc);
      counts = λ xs d i. ap length d;
      rest = λ xs behind d s. ap (λ z. z ++ behind) d;
      shows = λ xs behind d s. subst (λ z. Spoken f z (plain signs (z ++ behind))) (sym d) (record { said = said; front = front; spells = λ m i rest s r. spells m rest });
    }

  -- no phrase

  pub never_good : Good never lay.never (λ ts. plain [] ts) (λ ts. ⊥)
  never_good = record { begins = λ xs d. absurd d; firm = λ xs d i. absurd d; counts = λ xs d i. absurd d; rest = λ xs behind d s. absurd d; shows = λ xs behind d s. absurd d }

  -- one phrase behind another

  mid_stops : (p : Kind → Bool) (v t u : Bool) (ss rest : List Sign) → Front p v ss → (not t || is_closed p) ≡ true → ((u || (v && t)) ≡ true → next_is opens rest ≡ false) → t ≡ true → next_is opens (ss ++ rest) ≡ false
  mid_stops p v t u [] rest i c s e = s (from u v t i e)
    where
      from : (u v t : Bool) → v ≡ true → t ≡ true → (u || (v && t)) ≡ true
      from true v t i e = refl
      from false true t i e = e
      from false false t i e = i
  mid_stops p v t u (s ∷ ss) rest i c e h = closed_before p (s ∷ (ss ++ rest)) (closes t h c) i
    where
      closes : (t : Bool) → t ≡ true → (not t || is_closed p) ≡ true → is_closed p ≡ true
      closes true h c = c
      closes false h c = absurd (cc)

  or_true : (a b : Bool) → b ≡ true → (a || b) ≡ true
  or_true true b e = refl
  or_true false b e = e

  or_first' : (a b : Bool) → a ≡ true → (a || b) ≡ true
  or_first' true b e = refl
  or_first' false b e = absurd (cc)

  both_front : (p q : Kind → Bool) (v w : Bool) (ss ts : List Sign) → Front p v ss → Front q w ts → Front (λ k. starts_both v p q k) (v && w) (ss ++ ts)
  both_front p q v w [] [] i j = and_from v w i j
  both_front p q true w [] (t ∷ ts) i j = or_true (p (kind_of t)) (q (kind_of t)) j
  both_front p q false w [] (t ∷ ts) i j = absurd (cc)
  both_front p q true w (s ∷ ss) ts i j = or_first' (p (kind_of s)) (q (kind_of s)) i
  both_front p q false w (s ∷ ss) ts i j = i

  again_front : (p : Kind → Bool) (v : Bool) (ss ts : List Sign) → Front p v ss → Front p true ts → Front p true (ss ++ ts)
  again_front p v [] ts i j = j
  again_front p v (s ∷ ss) ts i j = i

  freer : (p : Kind → Bool) (v : Bool) (ss : List Sign) → Front p v ss → Front p true ss
  freer p v [] i = refl
  freer p v (s ∷ ss) i = i

  first_front : (p q : Kind → Bool) (v w : Bool) (ss : List Sign) → Front p v ss → Front (λ k. p k || q k) (v || w) ss
  first_front p q v w [] i = or_first' v w i
  first_front p q v w (s ∷ ss) i = or_first' (p (kind_of s)) (q (kind_of s)) i

  second_front : (p q : Kind → Bool) (v w : Bool) (ss : List Sign) → Front q w ss → Front (λ k. p k || q k) (v || w) ss
  second_front p q v w [] i = or_true v w i
  second_front p q v w (s ∷ ss) i = or_true (p (kind_of s)) (q (kind_of s)) i

  module _ {A B : Type 0} {f : Form Role TableSort A} {g : Form Role TableSort B} {a : A} {b : B} {x y : Shown} (c : (not (trails f) || is_closed (starts (table_heads table) g)) ≡ true) (p : Spoken f a x) (q : Spoken g b y) where
    pub pair : (behind : List Tree) → Spoken (both f g) (a, b) (shown (x.signs ++ y.signs) (max x.levels y.levels) behind)
    pair behind = record {
      said = said_both x.signs y.signs p.said q.said;
      front = both_front (starts (table_heads table) f) (starts (table_heads table) g) (may_vanish f) (may_vanish g) x.signs y.signs p.front q.front;
      spells = λ m i rest s r.
          let d = q.spells m (omega (arith, i)) rest (λ e. s (or_first' (trails g) (may_vanish g && trails f) e)) r in
          let mid = y.signs ++ rest in
          let e = p.spells m (omega (arith, i)) mid (mid_stops (starts (table_heads table) g) (may_vanish g) (trails f) (trails g) y.signs rest q.front c s) (said_both y.signs rest q.said r) in
          (e.0 ++ d.0, record { mid = mid; front = e.0; back = d.0; first = subst (λ z. Spells (table_heads table) (positive m) (below_of table m) f z a e.0 mid) (sym (append_assoc x.signs y.signs rest)) e.1; second = d.1; uses = refl });
    }

  -- one more of many
  one_more : {A : Type 0} {f : Form Role TableSort A} {a : A} {l : List A} {x y : Shown} → (not (trails f) || is_closed (starts (table_heads table) f)) ≡ true → Spoken f a x → Spoken (many false f) l y → (behind : List Tree) → Spoken (many false f) (a ∷ l) (shown (x.signs ++ y.signs) (max x.levels y.levels) behind)
  one_more {f = f} {x = x} {y = y} c p q behind =
      let b = pair c p q behind in
      record {
        said = b.said;
        front = again_front (starts (table_heads table) f) (may_vanish f) x.signs y.signs p.front q.front;
        spells = λ m i rest s r. let d = b.spells m i rest (λ e. s (twice (trails f) e)) r in (d.0, record { mid = d.1.mid; front = d.1.front; back = d.1.back; first = d.1.first; second = d.1.second; uses = d.1.uses });
      }
    where
      twice : (t : Bool) → (t || t) ≡ true → t ≡ true
      twice true e = refl
      twice false e = e

  no_more : {A : Type 0} {f : Form Role TableSort A} (behind : List Tree) → Spoken (many false f) [] (plain [] behind)
  no_more behind = record { said = refl; front = refl; spells = λ m i rest s r. ([], (record { tokens = refl; uses = refl }, λ e. absurd (cc))) }

  is_there : {A : Type 0} {f : Form Role TableSort A} {a : A} {x : Shown} → Spoken f a x → Spoken (may false f) (Some a) x
  is_there {f = f} {x = x} p = record { said = p.said; front = freer (starts (table_heads table) f) (may_vanish f) x.signs p.front; spells = p.spells }

  pub is_absent : {A : Type 0} {f : Form Role TableSort A} (behind : List Tree) → Spoken (may false f) None (plain [] behind)
  is_absent behind = record { said = refl; front = refl; spells = λ m i rest s r. ([], (record { tokens = refl; uses = refl }, λ e. absurd (cc))) }

  one_way : {A : Type 0} {f g : Form Role TableSort A} {a : A} {x : Shown} → Spoken f a x → Spoken (either f g) a x
  one_way {f = f} {g = g} {x = x} p = record {
    said = p.said;
    front = first_front (starts (table_heads table) f) (starts (table_heads table) g) (may_vanish f) (may_vanish g) x.signs p.front;
    spells = λ m i rest s r. let d = p.spells m i rest (λ e. s (or_first' (trails f) (trails g) e)) r in (d.0, inl d.1);
  }

  outside : (p q : Kind → Bool) (v : Bool) (ss rest : List Sign) → v ≡ false → within q (λ k. not (p k)) ≡ true → Front q v ss → next_is p (ss ++ rest) ≡ false
  outside p q v [] rest e w i = absurd (let n : true ≡ false = sym i ∙ e in cc)
  outside p q v (s ∷ ss) rest e w i = not-true (p (kind_of s)) (within_next q (λ k. not (p k)) w (s ∷ ss) i)

  other_way : {A : Type 0} {f g : Form Role TableSort A} {a : A} {x : Shown} → may_vanish g ≡ false → within (starts (table_heads table) g) (λ k. not (starts (table_heads table) f k)) ≡ true → Spoken g a x → Spoken (either f g) a x
  other_way {f = f} {g = g} {x = x} v w p = record {
    said = p.said;
    front = second_front (starts (table_heads table) f) (starts (table_heads table) g) (may_vanish f) (may_vanish g) x.signs p.front;
    spells = λ m i rest s r. let d = p.spells m i rest (λ e. s (or_true (trails f) (trails g) e)) r in (d.0, inr (outside (starts (table_heads table) f) (starts (table_heads table) g) (may_vanish g) x.signs rest v w p.front, d.1));
  }

  leveled : {A : Type 0} {f : Form Role TableSort A} {a : A} {x : Shown} → Spoken f a x → Spoken (level f) a (opening x)
  leveled p = record { said = p.said; front = p.front; spells = λ m i rest s r. let d = p.spells m (omega (arith, i)) rest s r in (d.0, (room m (omega (arith, i)), d.1)) }
    where
      room : (m : ℕ) → 1 ≤ m → IsTrue (positive m)
      room zero i = absurd (omega (arith, i))
      room (suc m) i = refl

  -- parts of a row

  both_begins : (k l : Layout) (front back : List Tree) → Begins k front → Begins l back → Begins (lay.both k l) (front ++ back)
  both_begins k l [] [] i j = and_from (is_bare k) (is_bare l) i j
  both_begins k l [] (t ∷ ts) i j = subst (λ c. HeadIn (if c then firsts k ++ firsts l else firsts k) t) (sym i) (head_right (firsts k) (firsts l) t j)
  both_begins k l (t ∷ ts) back i j = case (λ c. HeadIn (if c then firsts k ++ firsts l else firsts k) t) (is_bare k) (λ e. head_left (firsts k) (firsts l) t i) (λ e. i)

  text_counts : (k : Layout) → is_text k ≡ true → (is_counted k ≡ true) × (takes k ≡ 0) × (is_bare k ≡ true)
  text_counts (lay.text s) e = (refl, refl, refl)
  text_counts k e = absurd (cc)

  nothing_from : (ts : List Tree) → length ts ≡ 0 → ts ≡ []
  nothing_from [] e = refl
  nothing_from (t ∷ ts) e = absurd (omega (arith, e))

  firm_behind : (k l : Layout) (t : Tree) → is_text k ≡ true → is_bare k ≡ true → FirmHead l t → FirmHead (lay.both k l) t
  firm_behind k l Empty e i d = d
  firm_behind k l (Node h a b) e i d =
      (subst (λ c. one_is_first (if c then firsts k ++ firsts l else firsts k) h ≡ true) (sym i) (firsts_right (firsts k) (firsts l) h d.0), if_true (is_text k) (belongs l h) (belongs k h) e ∙ d.1)

  firm_before : (k l : Layout) (t : Tree) → is_text k ≡ false → FirmHead k t → FirmHead (lay.both k l) t
  firm_before k l Empty e d = d
  firm_before k l (Node h a b) e d =
      (case (λ c. one_is_first (if c then firsts k ++ firsts l else firsts k) h ≡ true) (is_bare k) (λ i. firsts_left (firsts k) (firsts l) h d.0) (λ i. d.0), if_false (is_text k) (belongs l h) (belongs k h) e ∙ d.1)

  both_firm : (k l : Layout) (front back : List Tree) → (is_firm k ≡ true → Firm k front) → (is_firm l ≡ true → Firm l back) → (is_counted k ≡ true → length front ≡ takes k) → is_firm (lay.both k l) ≡ true → Firm (lay.both k l) (front ++ back)
  both_firm k l front back f g n i = elim (one_or_other (is_text k)) [
    | inl e ↦
        let t = text_counts k e in
        let none = nothing_from front (n t.0 ∙ t.1) in
        subst (λ z. Firm (lay.both k l) (z ++ back)) (sym none) (behind back (g (sym (if_true (is_text k) (is_firm l) (is_firm k) e) ∙ i)) e t.2)
    | inr e ↦ before front (f (sym (if_false (is_text k) (is_firm l) (is_firm k) e) ∙ i)) e
  ]
    where
      one_or_other : (b : Bool) → (b ≡ true) ⊎ (b ≡ false)
      one_or_other true = inl refl
      one_or_other false = inr refl

      behind : (back : List Tree) → Firm l back → is_text k ≡ true → is_bare k ≡ true → Firm (lay.both k l) back
      behind [] d e b = d
      behind (t ∷ ts) d e b = firm_behind k l t e b d

      before : (front : List Tree) → Firm k front → is_text k ≡ false → Firm (lay.both k l) (front ++ back)
      before [] d e = absurd d
      before (t ∷ ts) d e = firm_before k l t e d

  ends_last : (k l : Layout) (ts : List Tree) → Stops (ends (lay.both k l)) ts → Stops (ends l) ts
  ends_last k l ts s = go (is_bare l) s
    where
      go : (b : Bool) → Stops (if b then ends k ++ ends l else ends l) ts → Stops (ends l) ts
      go true s = (stops_parts (ends k) (ends l) ts s).1
      go false s = s

  ends_first : (k l : Layout) (back behind : List Tree) → all_avoid_each (firsts l) (ends k) ≡ true → Begins l back → Stops (ends (lay.both k l)) behind → Stops (ends k) (back ++ behind)
  ends_first k l [] behind a i s = (stops_parts (ends k) (ends l) behind (subst (λ b. Stops (if b then ends k ++ ends l else ends l) behind) i s)).0
  ends_first k l (t ∷ ts) behind a i s = stops_before (firsts l) (ends k) t (ts ++ behind) a i

  followed_rest : (x : Shown) (q : Shows) (ts : List Tree) → x.rest ≡ ts → followed x q ≡ shown (x.signs ++ (q ts).signs) (max x.levels (q ts).levels) (q ts).rest
  followed_rest x q ts e = ap (λ z. shown (x.signs ++ (q z).signs) (max x.levels (q z).levels) (q z).rest) e

  module _ {f g : TreesForm} {k l : Layout} {p q : Shows} {o r : Makes} (x : Good f k p o) (y : Good g l q r) (a : all_avoid_each (firsts l) (ends k) ≡ true) (c : (not (trails f) || is_closed (starts (table_heads table) g)) ≡ true) where
    pub both_good : Good (made both_of (both f g)) (lay.both k l) (λ ts. followed (p ts) q) (Behind o r)
    both_good = record {
      begins = λ xs d. subst (Begins (lay.both k l)) (sym d.parts) (both_begins k l d.front d.back (x.begins d.front d.first) (y.begins d.back d.second));
      firm = λ xs d i. subst (Firm (lay.both k l)) (sym d.parts) (both_firm k l d.front d.back (x.firm d.front d.first) (y.firm d.back d.second) (x.counts d.front d.first) i);
      counts = λ xs d i. ap length d.parts ∙ (length-append d.front d.back ∙ (λ j. x.counts d.front d.first (and_first (is_counted k) (is_counted l) i) j + y.counts d.back d.second (and_second (is_counted k) (is_counted l) i) j));
      rest = λ xs behind d s. ap (λ (z : Shown). z.rest) (whole xs behind d s) ∙ y.rest d.back behind d.second (ends_last k l behind s);
      shows = λ xs behind d s.
          let u = x.shows d.front (d.back ++ behind) d.first (ends_first k l d.back behind a (y.begins d.back d.second) s) in
          let v = y.shows d.back behind d.second (ends_last k l behind s) in
          subst (λ z. Spoken (made both_of (both f g)) xs z) (sym (whole xs behind d s)) (turned (pair c u v (q (d.back ++ behind)).rest) (sym d.parts));
    }
      where
        whole : (xs behind : List Tree) (d : Behind o r xs) → Stops (ends (lay.both k l)) behind → followed (p (xs ++ behind)) q ≡ shown ((p (d.front ++ (d.back ++ behind))).signs ++ (q (d.back ++ behind)).signs) (max (p (d.front ++ (d.back ++ behind))).levels (q (d.back ++ behind)).levels) (q (d.back ++ behind)).rest
        whole xs behind d s =
            ap (λ z. followed (p z) q) (ap (λ z. z ++ behind) d.parts ∙ append_assoc d.front d.back behind)
            ∙ followed_rest (p (d.front ++ (d.back ++ behind))) q (d.back ++ behind) (x.rest d.front (d.back ++ behind) d.first (ends_first k l d.back behind a (y.begins d.back d.second) s))

  -- a firm layout's own trees belong to it
  firm_belongs : (l : Layout) (xs behind : List Tree) → Firm l xs → next_belongs l (xs ++ behind) ≡ true
  firm_belongs l [] behind d = absurd d
  firm_belongs l (Empty ∷ ts) behind d = absurd d
  firm_belongs l (Node h a b ∷ ts) behind d = d.1

  firm_avoids : (k l : Layout) (xs behind : List Tree) → all_avoid (firsts l) k ≡ true → Firm l xs → next_belongs k (xs ++ behind) ≡ false
  firm_avoids k l [] behind a d = absurd d
  firm_avoids k l (Empty ∷ ts) behind a d = absurd d
  firm_avoids k l (Node h b c ∷ ts) behind a d = firsts_avoid (firsts l) k h a d.0

  firm_begins : (l : Layout) (xs : List Tree) → Firm l xs → Begins l xs
  firm_begins l [] d = absurd d
  firm_begins l (Empty ∷ ts) d = absurd d
  firm_begins l (Node h a b ∷ ts) d = d.0

  module _ {f : TreesForm} {l : Layout} {p : Shows} {o : Makes} (x : Good f l p o) (firm : is_firm l ≡ true) where
    may_begins : (xs : List Tree) → Begins l xs → Begins (lay.may l) xs
    may_begins [] i = refl
    may_begins (t ∷ ts) i = i

    abbrev may_shows : Shows
    may_shows ts = if next_belongs l ts then p ts else plain [] ts

    may_at : (xs behind : List Tree) (d : (xs ≡ []) ⊎ o xs) → Stops (ends (lay.may l)) behind → ((may_shows (xs ++ behind)).rest ≡ behind) × Spoken (maybe_form false f) xs (may_shows (xs ++ behind))
    may_at xs behind (inl e) s =
        let i : may_shows (xs ++ behind) ≡ plain [] behind = ap (λ z. may_shows (z ++ behind)) e ∙ if_false (next_belongs l behind) (p behind) (plain [] behind) s.0 in
        (ap (λ (z : Shown). z.rest) i, subst (λ z. Spoken (maybe_form false f) xs z) (sym i) (turned (is_absent behind) (sym e)))
    may_at xs behind (inr d) s =
        let i : may_shows (xs ++ behind) ≡ p (xs ++ behind) = if_true (next_belongs l (xs ++ behind)) (p (xs ++ behind)) (plain [] (xs ++ behind)) (firm_belongs l xs behind (x.firm xs d firm)) in
        (ap (λ (z : Shown). z.rest) i ∙ x.rest xs behind d s.1, subst (λ z. Spoken (maybe_form false f) xs z) (sym i) (turned (is_there (x.shows xs behind d s.1)) refl))

    pub may_good : Good (maybe_form false f) (lay.may l) may_shows (λ ts. (ts ≡ []) ⊎ o ts)
    may_good = record {
      begins = λ xs d. elim d as (λ _. Begins (lay.may l) xs) [ inl e ↦ subst (Begins (lay.may l)) (sym e) refl | inr d ↦ may_begins xs (x.begins xs d) ];
      firm = λ xs d i. absurd (cc);
      counts = λ xs d i. absurd (cc);
      rest = λ xs behind d s. (may_at xs behind d s).0;
      shows = λ xs behind d s. (may_at xs behind d s).1;
    }

    module _ (own : all_avoid_each (firsts l) (ends l) ≡ true) (c : (not (trails f) || is_closed (starts (table_heads table) f)) ≡ true) where
      abbrev Many : ℕ → List (List Tree) → List Tree → Type 0
      Many n xss behind = ((repeated (next_belongs l) p n (all_of xss ++ behind)).rest ≡ behind) × Spoken (many false f) xss (repeated (next_belongs l) p n (all_of xss ++ behind))

      many_stop : (xss : List (List Tree)) (behind : List Tree) → AllByRecursion o xss → Stops (l ∷ ends l) behind → Stops (ends l) (all_of xss ++ behind)
      many_stop [] behind w s = s.1
      many_stop (xs ∷ xss) behind w s = go xs (x.firm xs w.0 firm)
        where
          go : (xs : List Tree) → Firm l xs → Stops (ends l) ((xs ++ all_of xss) ++ behind)
          go [] d = absurd d
          go (Empty ∷ ts) d = absurd d
          go (Node h a b ∷ ts) d = stops_before (firsts l) (ends l) (Node h a b) ((ts ++ all_of xss) ++ behind) own d.0

      some : (xs : List Tree) → Firm l xs → 1 ≤ length xs
      some [] d = absurd d
      some (t ∷ ts) d = omega arith

      many_at : (xss : List (List Tree)) (behind : List Tree) → AllByRecursion o xss → Stops (l ∷ ends l) behind → (n : ℕ) → length (all_of xss) ≤ n → Many n xss behind
      many_at [] behind w s zero i = (refl, no_more behind)
      many_at [] behind w s (suc n) i =
          let e : repeated (next_belongs l) p (suc n) behind ≡ plain [] behind = if_false (next_belongs l behind) (followed (p behind) (repeated (next_belongs l) p n)) (plain [] behind) s.0 in
          (ap (λ (z : Shown). z.rest) e, subst (λ z. Spoken (many false f) [] z) (sym e) (no_more behind))
      many_at (xs ∷ xss) behind w s zero i = absurd (let j = some xs (x.firm xs w.0 firm) in let k = length-append xs (all_of xss) in omega arith)
      many_at (xs ∷ xss) behind w s (suc n) i =
          let mid = all_of xss ++ behind in
          let stop = many_stop xss behind w.1 s in
          let few : length (all_of xss) ≤ n = (let j = some xs (x.firm xs w.0 firm) in let k = length-append xs (all_of xss) in omega arith) in
          let later = many_at xss behind w.1 s n few in
          let u = x.shows xs mid w.0 stop in
          let whole : repeated (next_belongs l) p (suc n) ((xs ++ all_of xss) ++ behind) ≡ shown ((p (xs ++ mid)).signs ++ (repeated (next_belongs l) p n mid).signs) (max (p (xs ++ mid)).levels (repeated (next_belongs l) p n mid).levels) (repeated (next_belongs l) p n mid).rest =
          ap (repeated (next_belongs l) p (suc n)) (append_assoc xs (all_of xss) behind)
          ∙ (if_true (next_belongs l (xs ++ mid)) (followed (p (xs ++ mid)) (repeated (next_belongs l) p n)) (plain [] (xs ++ mid)) (firm_belongs l xs mid (x.firm xs w.0 firm))
          ∙ followed_rest (p (xs ++ mid)) (repeated (next_belongs l) p n) mid (x.rest xs mid w.0 stop)) in
          (ap (λ (z : Shown). z.rest) whole ∙ later.0, subst (λ z. Spoken (many false f) (xs ∷ xss) z) (sym whole) (one_more c u later.1 (repeated (next_belongs l) p n mid).rest))

      many_begins : (xss : List (List Tree)) → AllByRecursion o xss → Begins (lay.many l) (all_of xss)
      many_begins [] w = refl
      many_begins (xs ∷ xss) w = go xs (x.firm xs w.0 firm)
        where
          go : (xs : List Tree) → Firm l xs → Begins (lay.many l) (xs ++ all_of xss)
          go [] d = absurd d
          go (Empty ∷ ts) d = absurd d
          go (Node h a b ∷ ts) d = d.0

      abbrev many_shows : Shows
      many_shows ts = repeated (next_belongs l) p (length ts) ts

      many_all : (xs behind : List Tree) (d : (l : List (List Tree)) × (xs ≡ all_of l) × AllByRecursion o l) → Stops (ends (lay.many l)) behind → ((many_shows (xs ++ behind)).rest ≡ behind) × Spoken (many_form false f) xs (many_shows (xs ++ behind))
      many_all xs behind d s =
          let m = many_at d.0 behind d.2 s (length (all_of d.0 ++ behind)) (let k = length-append (all_of d.0) behind in omega arith) in
          let e : many_shows (xs ++ behind) ≡ many_shows (all_of d.0 ++ behind) = ap (λ z. many_shows (z ++ behind)) d.1 in
          (ap (λ (z : Shown). z.rest) e ∙ m.0, subst (λ z. Spoken (many_form false f) xs z) (sym e) (turned m.1 (sym d.1)))

      pub many_good : Good (many_form false f) (lay.many l) many_shows (λ ts. (l : List (List Tree)) × (ts ≡ all_of l) × AllByRecursion o l)
      many_good = record {
        begins = λ xs d. subst (Begins (lay.many l)) (sym d.1) (many_begins d.0 d.2);
        firm = λ xs d i. absurd (cc);
        counts = λ xs d i. absurd (cc);
        rest = λ xs behind d s. (many_all xs behind d s).0;
        shows = λ xs behind d s. (many_all xs behind d s).1;
      }

  -- choices, lists and nodes

  firm_left : (k l : Layout) (xs : List Tree) → Firm k xs → Firm (lay.either k l) xs
  firm_left k l [] d = d
  firm_left k l (Empty ∷ ts) d = d
  firm_left k l (Node h a b ∷ ts) d = (firsts_left (firsts k) (firsts l) h d.0, or_first' (belongs k h) (belongs l h) d.1)

  firm_right : (k l : Layout) (xs : List Tree) → Firm l xs → Firm (lay.either k l) xs
  firm_right k l [] d = d
  firm_right k l (Empty ∷ ts) d = d
  firm_right k l (Node h a b ∷ ts) d = (firsts_right (firsts k) (firsts l) h d.0, or_true (belongs k h) (belongs l h) d.1)

  just_one : (l : Layout) (n : ℕ) → (is_counted l ≡ true → n ≡ takes l) → (is_counted l && (takes l == 1)) ≡ true → n ≡ 1
  just_one l n f e = f (and_first (is_counted l) (takes l == 1) e) ∙ eqb-true (takes l) 1 (and_second (is_counted l) (takes l == 1) e)

  module _ {f g : TreesForm} {k l : Layout} {p q : Shows} {o r : Makes} (x : Good f k p o) (y : Good g l q r) (i : is_firm k ≡ true) (j : is_firm l ≡ true) (a : all_avoid (firsts l) k ≡ true) (v : may_vanish g ≡ false) (w : within (starts (table_heads table) g) (λ k. not (starts (table_heads table) f k)) ≡ true) where
    abbrev either_shows : Shows
    either_shows ts = if next_belongs k ts then p ts else q ts

    either_firm : (xs : List Tree) → o xs ⊎ r xs → Firm (lay.either k l) xs
    either_firm xs (inl d) = firm_left k l xs (x.firm xs d i)
    either_firm xs (inr d) = firm_right k l xs (y.firm xs d j)

    either_counts : (xs : List Tree) → o xs ⊎ r xs → ((is_counted k && (takes k == 1)) && (is_counted l && (takes l == 1))) ≡ true → length xs ≡ 1
    either_counts xs (inl d) e = just_one k (length xs) (x.counts xs d) (and_first (is_counted k && (takes k == 1)) (is_counted l && (takes l == 1)) e)
    either_counts xs (inr d) e = just_one l (length xs) (y.counts xs d) (and_second (is_counted k && (takes k == 1)) (is_counted l && (takes l == 1)) e)

    either_at : (xs behind : List Tree) → o xs ⊎ r xs → Stops (ends k ++ ends l) behind → ((either_shows (xs ++ behind)).rest ≡ behind) × Spoken (either f g) xs (either_shows (xs ++ behind))
    either_at xs behind (inl d) s =
        let e : either_shows (xs ++ behind) ≡ p (xs ++ behind) = if_true (next_belongs k (xs ++ behind)) (p (xs ++ behind)) (q (xs ++ behind)) (firm_belongs k xs behind (x.firm xs d i)) in
        let t = (stops_parts (ends k) (ends l) behind s).0 in
        (ap (λ (z : Shown). z.rest) e ∙ x.rest xs behind d t, subst (λ z. Spoken (either f g) xs z) (sym e) (one_way (x.shows xs behind d t)))
    either_at xs behind (inr d) s =
        let e : either_shows (xs ++ behind) ≡ q (xs ++ behind) = if_false (next_belongs k (xs ++ behind)) (p (xs ++ behind)) (q (xs ++ behind)) (firm_avoids k l xs behind a (y.firm xs d j)) in
        let t = (stops_parts (ends k) (ends l) behind s).1 in
        (ap (λ (z : Shown). z.rest) e ∙ y.rest xs behind d t, subst (λ z. Spoken (either f g) xs z) (sym e) (other_way v w (y.shows xs behind d t)))

    pub either_good : Good (either f g) (lay.either k l) either_shows (λ ts. o ts ⊎ r ts)
    either_good = record {
      begins = λ xs d. firm_begins (lay.either k l) xs (either_firm xs d);
      firm = λ xs d e. either_firm xs d;
      counts = λ xs d e. either_counts xs d e;
      rest = λ xs behind d s. (either_at xs behind d s).0;
      shows = λ xs behind d s. (either_at xs behind d s).1;
    }

  self : (h : Head) → same_head h h ≡ true
  self h = and_from ((code h).tag == (code h).tag) _ (eq-eqb _ _ refl) (and_from ((code h).a == (code h).a) _ (eq-eqb _ _ refl) (eq-eqb _ _ refl))

  pub any_head : (t : Tree) → HeadIn (Any ∷ []) t
  any_head Empty = tt
  any_head (Node h a b) = refl

  chain_back : (ts : List Tree) → chain_items (chain ts) ≡ ts
  unfolding chain_items
  chain_back [] = refl
  chain_back (t ∷ ts) = ap (λ l. t ∷ l) (chain_back ts)

  single_back : (ts : List Tree) → single_items (length ts) (single ts) ≡ ts
  unfolding single_items
  single_back [] = refl
  single_back (t ∷ []) = refl
  single_back (t ∷ (u ∷ ts)) = ap (λ l. t ∷ l) (single_back (u ∷ ts))

  over_back : (h : Head) (ts : List Tree) → node_items (length ts) (over h ts) ≡ ts
  over_back h [] = refl
  over_back h (t ∷ ts) = ap (λ l. t ∷ l) (single_back ts)

  over_head : (h : Head) (ts : List Tree) → FirmHead (lay.over h (lay.text [])) (over h ts)
  over_head h [] = (or_first' (same_head h h) false (self h), self h)
  over_head h (t ∷ ts) = (or_first' (same_head h h) false (self h), self h)

  as_over : (h : Head) (l : Layout) (t : Tree) → FirmHead (lay.over h (lay.text [])) t → FirmHead (lay.over h l) t
  as_over h l Empty d = d
  as_over h l (Node k a b) d = d

  pub firm_in : (l : Layout) (t : Tree) → FirmHead l t → HeadIn (firsts l) t
  firm_in l Empty d = absurd d
  firm_in l (Node h a b) d = d.0

  module _ {f : TreesForm} {l : Layout} {p : Shows} {o : Makes} (x : Good f l p o) where
    pub chain_good : Good (made (λ ts. chain ts ∷ []) f) (lay.chained l) (one (λ t. p (chain_items t))) (JustOne (λ t. (l : List Tree) × (t ≡ chain l) × o l))
    chain_good =
        one_good (made (λ ts. chain ts ∷ []) f) (lay.chained l) (λ t. p (chain_items t)) (λ t. (l : List Tree) × (t ≡ chain l) × o l) refl (λ t d. any_head t) (λ t d i. absurd (cc)) (
        λ t d. subst (λ z. Spoken (made (λ ts. chain ts ∷ []) f) (t ∷ []) (p z)) (append-nil d.0 ∙ (sym (chain_back d.0) ∙ ap chain_items (sym d.1))) (turned (x.shows d.0 [] d.2 (stops_at_end (ends l))) (ap (λ z. z ∷ []) (sym d.1)))
        )

    pub over_good : (h : Head) → is_counted l ≡ true → Good (made (λ ts. over h ts ∷ []) f) (lay.over h l) (one (λ t. p (node_items (takes l) t))) (JustOne (λ t. (l : List Tree) × (t ≡ over h l) × o l))
    over_good h c =
        let firms : (t : Tree) → ((l : List Tree) × (t ≡ over h l) × o l) → FirmHead (lay.over h l) t = λ t d. subst (FirmHead (lay.over h l)) (sym d.1) (as_over h l (over h d.0) (over_head h d.0)) in
        one_good (made (λ ts. over h ts ∷ []) f) (lay.over h l) (λ t. p (node_items (takes l) t)) (λ t. (l : List Tree) × (t ≡ over h l) × o l) refl (λ t d. firm_in (lay.over h l) t (firms t d)) (λ t d i. firms t d) (
        λ t d. subst (λ z. Spoken (made (λ ts. over h ts ∷ []) f) (t ∷ []) (p z))
        (append-nil d.0 ∙ (sym (over_back h d.0) ∙ (ap (λ n. node_items n (over h d.0)) (x.counts d.0 d.2 c) ∙ ap (node_items (takes l)) (sym d.1))))
        (turned (x.shows d.0 [] d.2 (stops_at_end (ends l))) (ap (λ z. z ∷ []) (sym d.1)))
        )

    level_begins : (xs : List Tree) → Begins l xs → Begins (lay.level l) xs
    level_begins [] d = d
    level_begins (t ∷ ts) d = d

    level_firm : (xs : List Tree) → Firm l xs → Firm (lay.level l) xs
    level_firm [] d = d
    level_firm (Empty ∷ ts) d = d
    level_firm (Node h a b ∷ ts) d = d

    pub level_good : Good (level f) (lay.level l) (λ ts. opening (p ts)) o
    level_good = record {
      begins = λ xs d. level_begins xs (x.begins xs d);
      firm = λ xs d i. level_firm xs (x.firm xs d i);
      counts = λ xs d i. just_one l (length xs) (x.counts xs d) i;
      rest = x.rest;
      shows = λ xs behind d s. leveled (x.shows xs behind d s);
    }
