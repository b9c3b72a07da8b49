-- The tokens outside braces are those outside the proof block.
use Rattle.std.proofs.Common.{◌≡◌, ℕ, zero, suc, ◌+◌, ◌-◌, Bool, true, false, not, ◌&&◌, ◌||◌, inl, inr, List, [], ◌∷◌, ◌++◌, length, take, drop, refl, ap, ap₂, sym, ◌∙◌, subst, arith, append_assoc, length-append, Option, Some, None, Ok}
use Rattle.std.proofs.Math.Seq.{drop-append_seam, take-append_seam}
use Rattle.std.proofs.lemmas.Bool.{and_parts}
use Rattle.cv_lex.specs.Lexis.{Token}
use Rattle.cv_lex.specs.View.{AreTokens}
use Rattle.cv_syntax_trees.specs.Tree.{Tree}
use Rattle.cv_parse_notation.specs.declared.sign.Mark.TheVariants as mark
use Rattle.cv_parse_notation.specs.declared.sign.Sign.{Sign}
use Rattle.cv_parse_notation.specs.declared.sign.Sign.TheVariants as token
use Rattle.cv_parse_notation.specs.Form.{sign, script_word, word, number, nought, find_word, unnamed, other, note, both, may, many, either, made, level, deeper, ◌&◌, ◌▸◌}
use Rattle.cv_parse_notation.specs.Marks.{same_mark}
use Rattle.cv_parse_notation.specs.Spells.{Each, IsSort, Kind, Perhaps, Relation, Spells, Use, no_sort, starts}
use Rattle.cv_parse_grammar.specs.declared.role.Role.{Role}
use Rattle.cv_parse_grammar.specs.Files.{levels}
use Rattle.cv_parse_grammar.specs.declared.role.Region.TheVariants.{InProcess}
use Rattle.cv_parse_grammar.specs.Processes.{inputs}
use Rattle.cv_parse_grammar.specs.Phrases.{Phrase, Sort, inside}
use Rattle.cv_parse_grammar.specs.Phrases as sort
use Rattle.cv_parse_grammar.specs.Declarations.{declaration}
use Rattle.cv_parse_grammar.specs.Rules.{File, heads, matched, proof_block, rule}
use Rattle.cv_parse_tables.specs.terminals.Braces.{closes, open_behind, opens, outside, outside_from}
use Rattle.cv_parse_tables.specs.terminals.Signs.{signs_in, signs_of}
use Rattle.cv_parse_tables.proofs.terminals.FileTokens.{none_behind}
use Rattle.cv_parse_tables.proofs.terminals.Outside.{names_outside}
use Rattle.cv_parse_tables.proofs.terminals.Telling.{count_all}
use Rattle.cv_parse.specs.Parsed.{Parsed, parsed, range_of}
use Rattle.cv_parse.proofs.Exactness.{said_is_saying}
use Rattle.cv_parse_laws.specs.Blocks.{around}
use Rattle.cv_parse_laws.proofs.Braced.{Alike, file_alike, is_brace, number_plain}
use Rattle.cv_syntax_trees.proofs.lists.Tests.{false_from_not}

-- Tokens whose signs were passed, all outside braces.
record IsPassed (ts : List Token) (ss rest : List Sign) : Type 0 where
  front : List Token
  back : List Token
  split : ts ≡ front ++ back
  alike : Alike back rest
  count : length ss ≡ length front + length rest
  kept : outside_from 0 ts ≡ front ++ outside_from 0 back

passed_none : (ts : List Token) (ss : List Sign) → Alike ts ss → IsPassed ts ss ss
passed_none ts ss a = record { front = []; back = ts; split = refl; alike = a; count = omega arith; kept = refl }

passed_on : (ts : List Token) (ss mid rest : List Sign) → (p : IsPassed ts ss mid) → IsPassed p.back mid rest → IsPassed ts ss rest
passed_on ts ss mid rest p q = record {
  front = p.front ++ q.front;
  back = q.back;
  split = p.split ∙ (ap (λ l. p.front ++ l) q.split ∙ sym (append_assoc p.front q.front q.back));
  alike = q.alike;
  count = (let a = p.count in let b = q.count in let c = length-append p.front q.front in omega arith);
  kept = p.kept ∙ (ap (λ l. p.front ++ l) q.kept ∙ sym (append_assoc p.front q.front (outside_from 0 q.back)));
}

-- one token that opens no brace
passed_one : (ts : List Token) (s : Sign) (rest : List Sign) → is_brace mark.OpenBrace s ≡ false → Alike ts (s ∷ rest) → IsPassed ts (s ∷ rest) rest
unfolding outside_from
passed_one [] s rest e a = absurd a
passed_one (t ∷ ts) s rest e a = record {
  front = t ∷ [];
  back = ts;
  split = refl;
  alike = a.1;
  count = omega arith;
  kept = ap (λ d. t ∷ outside_from d ts) (none_behind t.text (a.0.opens ∙ e));
}

-- a sort without braces
abbrev is_bare_sort : Sort → Bool
is_bare_sort sort.Braces = false
is_bare_sort s = true

-- a form without braces
abbrev is_bare : {A : Type 0} → Phrase A → Bool
is_bare (sign m) = not (same_mark m mark.OpenBrace)
is_bare (both f g) = is_bare f && is_bare g
is_bare (may near f) = is_bare f
is_bare (many near f) = is_bare f
is_bare (either f g) = is_bare f && is_bare g
is_bare (made v f) = is_bare f
is_bare (level f) = is_bare f
is_bare (deeper s) = is_bare_sort s
is_bare f = true

abbrev Passes : {A : Type 0} → Relation Role A → Type 0
Passes {A} S = (ts : List Token) (ss : List Sign) (a : A) (us : List (Use Role)) (rest : List Sign) → S ss a us rest → Alike ts ss → IsPassed ts ss rest

perhaps_passes : {A : Type 0} (S : Relation Role A) (near : Bool) (k : Kind → Bool) → Passes S → Passes (Perhaps S near k)
perhaps_passes S near k p ts ss None us rest d a = subst (IsPassed ts ss) d.0.tokens (passed_none ts ss a)
perhaps_passes S near k p ts ss (Some x) us rest d a = p ts ss x us rest d a

each_passes : {A : Type 0} (S : Relation Role A) (near : Bool) (k : Kind → Bool) → Passes S → Passes (Each S near k)
each_passes S near k p ts ss [] us rest d a = subst (IsPassed ts ss) d.0.tokens (passed_none ts ss a)
each_passes S near k p ts ss (x ∷ l) us rest d a =
    let q = p ts ss x d.front d.mid d.first a in
    passed_on ts ss d.mid rest q (each_passes S near k p q.back d.mid l d.back rest d.second q.alike)

token_passes : (ts : List Token) (ss : List Sign) (s : Sign) (rest : List Sign) → ss ≡ s ∷ rest → is_brace mark.OpenBrace s ≡ false → Alike ts ss → IsPassed ts ss rest
token_passes ts ss s rest e b a = subst (λ l. IsPassed ts l rest) (sym e) (passed_one ts s rest b (subst (Alike ts) e a))

not_other : (a b : Bool) → not (a || b) ≡ true → a ≡ false
not_other true b e = absurd (cc)
not_other false b e = refl

module _ (room : Bool) (below : Sort → Relation Role Tree) (low : (s : Sort) → is_bare_sort s ≡ true → Passes (below s)) where
  passes : {A : Type 0} (f : Phrase A) → is_bare f ≡ true → Passes (Spells heads room below f)
  passes (sign m) e ts ss x us rest d a = token_passes ts ss _ rest d.tokens (false_from_not (same_mark m mark.OpenBrace) e) a
  passes (script_word w) e ts ss x us rest d a = token_passes ts ss _ rest d.tokens refl a
  passes (word r) e ts ss x us rest d a = token_passes ts ss _ rest d.tokens refl a
  passes number e ts ss x us rest d a = token_passes ts ss _ rest d.tokens (number_plain mark.OpenBrace x) a
  passes nought e ts ss x us rest d a = token_passes ts ss _ rest d.tokens refl a
  passes find_word e ts ss x us rest d a = token_passes ts ss _ rest d.tokens refl a
  passes (unnamed r) e ts ss x us rest d a = token_passes ts ss _ rest d.tokens refl a
  passes other e ts ss x us rest d a = token_passes ts ss d.0 rest d.2.tokens (not_other _ _ d.1) a
  passes (note r) e ts ss x us rest d a = subst (IsPassed ts ss) d.1.tokens (passed_none ts ss a)
  passes (both f g) e ts ss x us rest d a =
      let w = and_parts (is_bare f) (is_bare g) e in
      let p = passes f w.0 ts ss x.0 d.front d.mid d.first a in
      passed_on ts ss d.mid rest p (passes g w.1 p.back d.mid x.1 d.back rest d.second p.alike)
  passes (may near f) e ts ss x us rest d a = perhaps_passes (Spells heads room below f) near (starts heads f) (passes f e) ts ss x us rest d a
  passes (many near f) e ts ss x us rest d a = each_passes (Spells heads room below f) near (starts heads f) (passes f e) ts ss x us rest d a
  passes (either f g) e ts ss x us rest d a =
      let w = and_parts (is_bare f) (is_bare g) e in
      elim d as (λ _. IsPassed ts ss rest) [
        | inl i ↦ passes f w.0 ts ss x us rest i a
        | inr i ↦ passes g w.1 ts ss x us rest i.1 a
      ]
  passes (made v f) e ts ss x us rest d a = passes f e ts ss d.0 us rest d.1 a
  passes (level f) e ts ss x us rest d a = passes f e ts ss x us rest d.1 a
  passes (deeper s) e ts ss x us rest d a = low s e ts ss x us rest d a

-- no row but that of braces has some
bare_rows : (s : Sort) → is_bare_sort s ≡ true → is_bare (rule s) ≡ true
bare_rows sort.Term e = refl
bare_rows sort.Conjunction e = refl
bare_rows sort.Primary e = refl
bare_rows sort.Unequal e = refl
bare_rows sort.Arguments e = refl
bare_rows sort.Subscript e = refl
bare_rows sort.Parentheses e = refl
bare_rows sort.Inputs e = refl
bare_rows sort.Input e = refl
bare_rows sort.Output e = refl
bare_rows sort.Pattern e = refl
bare_rows sort.Sending e = refl
bare_rows sort.Payload e = refl
bare_rows sort.Variables e = refl
bare_rows sort.Indices e = refl
bare_rows sort.ProcessBranch e = refl
bare_rows sort.Cells e = refl
bare_rows sort.OneCell e = refl
bare_rows sort.Body e = refl
bare_rows sort.BodyBranch e = refl
bare_rows sort.LeftFunction e = refl
bare_rows sort.RightFunction e = refl
bare_rows sort.RightRest e = refl
bare_rows sort.RightSide e = refl
bare_rows sort.Braces e = absurd (cc)

sorts_pass : (n : ℕ) (s : Sort) → is_bare_sort s ≡ true → Passes (IsSort heads rule n s)
unfolding IsSort
sorts_pass zero s e ts ss x us rest d a = passes false no_sort (λ s w ts ss t us rest i. absurd i) (rule s) (bare_rows s e) ts ss x us rest d a
sorts_pass (suc n) s e ts ss x us rest d a = passes true (IsSort heads rule n) (sorts_pass n) (rule s) (bare_rows s e) ts ss x us rest d a

-- Tokens within braces whose signs were passed, with matched braces.
record IsWithin (depth : ℕ) (ts : List Token) (ss rest : List Sign) : Type 0 where
  front : List Token
  back : List Token
  split : ts ≡ front ++ back
  alike : Alike back rest
  count : length ss ≡ length front + length rest
  kept : outside_from (suc depth) ts ≡ outside_from (suc depth) back

within_none : (depth : ℕ) (ts : List Token) (ss : List Sign) → Alike ts ss → IsWithin depth ts ss ss
within_none depth ts ss a = record { front = []; back = ts; split = refl; alike = a; count = omega arith; kept = refl }

within_on : (depth : ℕ) (ts : List Token) (ss mid rest : List Sign) → (p : IsWithin depth ts ss mid) → IsWithin depth p.back mid rest → IsWithin depth ts ss rest
within_on depth ts ss mid rest p q = record {
  front = p.front ++ q.front;
  back = q.back;
  split = p.split ∙ (ap (λ l. p.front ++ l) q.split ∙ sym (append_assoc p.front q.front q.back));
  alike = q.alike;
  count = (let a = p.count in let b = q.count in let c = length-append p.front q.front in omega arith);
  kept = p.kept ∙ q.kept;
}

-- how many braces are open behind a token

behind_none : (text : List ℕ) (depth : ℕ) → opens text ≡ false → closes text ≡ false → open_behind depth text ≡ depth
behind_none text depth o c = rw (o, c)

behind_open : (text : List ℕ) (depth : ℕ) → opens text ≡ true → open_behind depth text ≡ suc depth
behind_open text depth o = rw o

behind_close : (text : List ℕ) (depth : ℕ) → opens text ≡ false → closes text ≡ true → open_behind (suc depth) text ≡ depth
behind_close text depth o c = rw (o, c) (omega arith)

outside_step : (depth : ℕ) (t : Token) (ts : List Token) (next : ℕ) → open_behind (suc depth) t.text ≡ next → outside_from (suc depth) (t ∷ ts) ≡ outside_from next ts
unfolding outside_from
outside_step depth t ts next e = ap (λ d. outside_from d ts) e

-- one token that is no brace
within_one : (depth : ℕ) (ts : List Token) (s : Sign) (rest : List Sign) → is_brace mark.OpenBrace s ≡ false → is_brace mark.CloseBrace s ≡ false → Alike ts (s ∷ rest) → IsWithin depth ts (s ∷ rest) rest
within_one depth [] s rest o c a = absurd a
within_one depth (t ∷ ts) s rest o c a = record {
  front = t ∷ [];
  back = ts;
  split = refl;
  alike = a.1;
  count = omega arith;
  kept = outside_step depth t ts (suc depth) (behind_none t.text (suc depth) (a.0.opens ∙ o) (a.0.closes ∙ c));
}

-- A token opens braces, or closes some, and so many tokens are left.
record IsOpen (ts : List Token) (rest : List Sign) : Type 0 where
  first : Token
  back : List Token
  split : ts ≡ first ∷ back
  alike : Alike back rest
  behind : (depth : ℕ) → open_behind depth first.text ≡ suc depth

record IsClosed (ts : List Token) (rest : List Sign) : Type 0 where
  first : Token
  back : List Token
  split : ts ≡ first ∷ back
  alike : Alike back rest
  behind : (depth : ℕ) → open_behind (suc depth) first.text ≡ depth

open_there : (ts : List Token) (ss rest : List Sign) → ss ≡ token.Mark mark.OpenBrace ∷ rest → Alike ts ss → IsOpen ts rest
open_there ts ss rest e a = go ts (subst (Alike ts) e a) where
  go : (us : List Token) → Alike us (token.Mark mark.OpenBrace ∷ rest) → IsOpen us rest
  go [] b = absurd b
  go (t ∷ us) b = record { first = t; back = us; split = refl; alike = b.1; behind = λ depth. behind_open t.text depth b.0.opens }

closed_there : (ts : List Token) (ss rest : List Sign) → ss ≡ token.Mark mark.CloseBrace ∷ rest → Alike ts ss → IsClosed ts rest
closed_there ts ss rest e a = go ts (subst (Alike ts) e a) where
  go : (us : List Token) → Alike us (token.Mark mark.CloseBrace ∷ rest) → IsClosed us rest
  go [] b = absurd b
  go (t ∷ us) b = record { first = t; back = us; split = refl; alike = b.1; behind = λ depth. behind_close t.text depth b.0.opens b.0.closes }

abbrev piece : Phrase (Unit {0})
piece = either (made (λ _. tt) (deeper sort.Braces)) other

abbrev Matches : {A : Type 0} → Relation Role A → Type 0
Matches {A} S = (depth : ℕ) (ts : List Token) (ss : List Sign) (a : A) (us : List (Use Role)) (rest : List Sign) → S ss a us rest → Alike ts ss → IsWithin depth ts ss rest

or_ends : (a b : Bool) → not (a || b) ≡ true → b ≡ false
or_ends true b e = absurd (cc)
or_ends false b e = false_from_not b e

module _ (room : Bool) (below : Sort → Relation Role Tree) (low : Matches (below sort.Braces)) where
  piece_matches : Matches (Spells heads room below piece)
  piece_matches depth ts ss x us rest d a =
      elim d as (λ _. IsWithin depth ts ss rest) [
        | inl i ↦ low depth ts ss i.0 us rest i.1 a
        | inr i ↦ let t = i.1 in subst (λ l. IsWithin depth ts l rest) (sym t.2.tokens) (within_one depth ts t.0 rest (not_other _ _ t.1) (or_ends _ _ t.1) (subst (Alike ts) t.2.tokens a))
      ]

  matched_matches : Matches (Spells heads room below matched)
  matched_matches depth ts ss [] us rest d a = subst (IsWithin depth ts ss) d.0.tokens (within_none depth ts ss a)
  matched_matches depth ts ss (x ∷ l) us rest d a =
      let p = piece_matches depth ts ss x d.front d.mid d.first a in
      within_on depth ts ss d.mid rest p (matched_matches depth p.back d.mid l d.back rest d.second p.alike)

  braces_match : Matches (Spells heads room below (rule sort.Braces))
  braces_match depth ts ss x us rest d a =
      let f = d.1.1 in
      let g = f.second.1 in
      let o = open_there ts ss f.mid f.first.tokens a in
      let w = matched_matches (suc depth) o.back f.mid g.first.0 g.front g.mid g.first.1 o.alike in
      let c = closed_there w.back g.mid rest g.second.tokens w.alike in
      record {
        front = o.first ∷ (w.front ++ c.first ∷ []);
        back = c.back;
        split = o.split ∙ ap (λ l. o.first ∷ l) (w.split ∙ (ap (λ l. w.front ++ l) c.split ∙ sym (append_assoc w.front (c.first ∷ []) c.back)));
        alike = c.alike;
        count = (let i = ap length f.first.tokens in let j = w.count in let k = ap length g.second.tokens in let l = length-append w.front (c.first ∷ []) in omega arith);
        kept =
            ap (outside_from (suc depth)) o.split
            ∙ (outside_step depth o.first o.back (suc (suc depth)) (o.behind (suc depth))
            ∙ (w.kept
            ∙ (ap (outside_from (suc (suc depth))) c.split
            ∙ outside_step (suc depth) c.first c.back (suc depth) (c.behind (suc depth)))));
      }

sorts_match : (n : ℕ) → Matches (IsSort heads rule n sort.Braces)
unfolding IsSort
sorts_match zero depth ts ss x us rest d a = absurd (let e : false ≡ true = d.0 in cc)
sorts_match (suc n) depth ts ss x us rest d a = braces_match true (IsSort heads rule n) (sorts_match n) depth ts ss x us rest d a

-- What stands before a proof block, with the brace that opens it, within it, and behind its last brace.
record HasBlock (ts : List Token) (ss mid : List Sign) (block : ℕ × ℕ) : Type 0 where
  front : List Token
  inner : List Token
  last : Token
  back : List Token
  split : ts ≡ front ++ (inner ++ last ∷ back)
  alike : Alike back mid
  first_left : block.0 + length front ≡ length ss
  last_left : block.1 + (length front + length inner) ≡ length ss
  left : length ts + length mid ≡ length ss + length back
  kept : outside_from 0 ts ≡ front ++ outside_from 0 back

-- the end token alone is kept
one_kept : (ts : List Token) → length ts ≡ 1 → outside_from 0 ts ≡ ts
unfolding outside_from
one_kept [] e = absurd (omega arith)
one_kept (t ∷ []) e = refl
one_kept (t ∷ u ∷ ts) e = absurd (omega arith)

all_kept : (ts : List Token) (ss : List Sign) → length ts ≡ length ss + 1 → IsPassed ts ss [] → outside_from 0 ts ≡ ts
all_kept ts ss l p =
    let a = p.count in
    let b = ap length p.split in
    let c = length-append p.front p.back in
    p.kept ∙ (ap (λ r. p.front ++ r) (one_kept p.back (omega arith)) ∙ sym p.split)

outside_open : (t : Token) (ts : List Token) → open_behind 0 t.text ≡ 1 → outside_from 0 (t ∷ ts) ≡ t ∷ outside_from 1 ts
unfolding outside_from
outside_open t ts e = ap (λ d. t ∷ outside_from d ts) e

-- the word before a block, the brace that opens it, its tokens and its last brace, one behind another
module _ (ts : List Token) (ss before start stop mid : List Sign) (p : IsPassed ts ss before) (o : IsOpen p.back start) (w : IsWithin 0 o.back start stop) (c : IsClosed w.back mid) where
  block_split : ts ≡ (p.front ++ o.first ∷ []) ++ (w.front ++ c.first ∷ c.back)
  block_split =
      p.split
      ∙ (ap (λ l. p.front ++ l) (o.split ∙ ap (λ l. o.first ∷ l) (w.split ∙ ap (λ l. w.front ++ l) c.split))
      ∙ sym (append_assoc p.front (o.first ∷ []) (w.front ++ c.first ∷ c.back)))

  block_kept : outside_from 0 ts ≡ (p.front ++ o.first ∷ []) ++ outside_from 0 c.back
  block_kept =
      p.kept
      ∙ (ap (λ l. p.front ++ l)
      (ap (outside_from 0) o.split
      ∙ (outside_open o.first o.back (o.behind 0)
      ∙ ap (λ l. o.first ∷ l) (w.kept ∙ (ap (outside_from 1) c.split ∙ outside_step 0 c.first c.back 0 (c.behind 0)))))
      ∙ sym (append_assoc p.front (o.first ∷ []) (outside_from 0 c.back)))

  joined : length before ≡ length start + 1 → length stop ≡ length mid + 1 → HasBlock ts ss mid (length start, length stop)
  joined opened closed =
      let ahead = length-append p.front (o.first ∷ []) in
      record {
        front = p.front ++ o.first ∷ [];
        inner = w.front;
        last = c.first;
        back = c.back;
        split = block_split;
        alike = c.alike;
        first_left = omega (arith, p.count, opened, ahead);
        last_left = omega (arith, p.count, w.count, opened, ahead);
        left = omega (arith, p.count, w.count, opened, closed, ahead, ap length block_split, length-append (p.front ++ o.first ∷ []) (w.front ++ c.first ∷ c.back), length-append w.front (c.first ∷ c.back));
        kept = block_kept;
      }

block_there : (ts : List Token) (ss mid : List Sign) (block : ℕ × ℕ) (us : List (Use Role)) → Spells heads true (IsSort heads rule levels) (mark.Proof ▸ proof_block) ss block us mid → Alike ts ss → HasBlock ts ss mid block
block_there ts ss mid block us d a =
    let f = d.1 in
    let g = f.second.1.1 in
    let h = g.second.1 in
    let k = h.first.1 in
    let m = k.second in
    let first : h.first.0.0 ≡ length k.mid = k.first.0 ∙ ap length k.first.1.tokens in
    let made_of : (h.first.0.0, h.first.0.1.1) ≡ block = h.first.2 ∙ (g.second.2 ∙ (f.second.1.2 ∙ d.2)) in
    let same : (length k.mid, length m.mid) ≡ block = ap₂ (λ i j. (i, j)) (sym first) (sym m.second.0) ∙ made_of in
    let opened : f.mid ≡ token.Mark mark.OpenBrace ∷ k.mid = g.first.tokens ∙ ap (λ l. token.Mark mark.OpenBrace ∷ l) k.first.1.tokens in
    let closed : m.mid ≡ token.Mark mark.CloseBrace ∷ mid = m.second.1.tokens ∙ h.second.tokens in
    let p = token_passes ts ss _ f.mid f.first.tokens refl a in
    let o = open_there p.back f.mid k.mid opened p.alike in
    let w = matched_matches true (IsSort heads rule levels) (sorts_match levels) 0 o.back k.mid h.first.0.1.0 m.front m.mid m.first o.alike in
    let c = closed_there w.back m.mid mid closed w.alike in
    subst (HasBlock ts ss mid) same (joined ts ss f.mid k.mid m.mid mid p o w c (omega (arith, ap length opened)) (omega (arith, ap length closed)))

-- a list without its middle
without_middle : (xs front inner back : List Token) (last : Token) (i j : ℕ) → xs ≡ front ++ (inner ++ last ∷ back) → i ≡ length front → j ≡ length front + length inner → front ++ back ≡ take i xs ++ drop (j + 1) xs
without_middle xs front inner back last i j e f g =
    let before : take i xs ≡ front = ap (λ n. take n xs) f ∙ (ap (take (length front)) e ∙ take-append_seam front (inner ++ last ∷ back)) in
    let whole : xs ≡ (front ++ (inner ++ last ∷ [])) ++ back =
    e ∙ (ap (λ l. front ++ l) (sym (append_assoc inner (last ∷ []) back)) ∙ sym (append_assoc front (inner ++ last ∷ []) back))
    in
    let many : j + 1 ≡ length (front ++ (inner ++ last ∷ [])) = (let a = length-append front (inner ++ last ∷ []) in let b = length-append inner (last ∷ []) in omega arith) in
    let after : drop (j + 1) xs ≡ back = ap (λ n. drop n xs) many ∙ (ap (drop (length (front ++ (inner ++ last ∷ [])))) whole ∙ drop-append_seam (front ++ (inner ++ last ∷ [])) back) in
    sym (ap (λ l. l ++ drop (j + 1) xs) before ∙ ap (λ l. front ++ l) after)

-- what stands behind the declarations of a file
abbrev rest : Phrase (Option (ℕ × ℕ) × Tree)
rest = may false (mark.Proof ▸ proof_block) & (mark.Process ▸ inside InProcess inputs)

process_passes : Passes (Spells heads true (IsSort heads rule levels) (mark.Process ▸ inside InProcess inputs))
process_passes = passes true (IsSort heads rule levels) (sorts_pass levels) (mark.Process ▸ inside InProcess inputs) refl

rest_kept : (front ts : List Token) (ss : List Sign) (n : ℕ) (s : Option (ℕ × ℕ)) (t : Tree) (us : List (Use Role)) → Spells heads true (IsSort heads rule levels) rest ss (s, t) us [] → Alike ts ss → length ts ≡ length ss + 1 → n ≡ length front + length ss → front ++ outside_from 0 ts ≡ around (range_of n s) (front ++ ts)
rest_kept front ts ss n None t us d a l e =
    let same = d.first.0.tokens in
    let p = process_passes ts d.mid t d.back [] d.second (subst (Alike ts) same a) in
    ap (λ x. front ++ x) (all_kept ts d.mid (l ∙ ap (λ x. length x + 1) same) p)
rest_kept front ts ss n (Some block) t us d a l e =
    let b = block_there ts ss d.mid block d.front d.first a in
    let p = process_passes b.back d.mid t d.back [] d.second b.alike in
    let whole : outside_from 0 ts ≡ b.front ++ b.back = b.kept ∙ ap (λ x. b.front ++ x) (all_kept b.back d.mid (let i = b.left in omega arith) p) in
    let split : front ++ ts ≡ (front ++ b.front) ++ (b.inner ++ b.last ∷ b.back) = ap (λ x. front ++ x) b.split ∙ sym (append_assoc front b.front (b.inner ++ b.last ∷ b.back)) in
    let many = length-append front b.front in
    let i = b.first_left in
    let j = b.last_left in
    ap (λ x. front ++ x) whole
    ∙ (sym (append_assoc front b.front b.back)
    ∙ without_middle (front ++ ts) (front ++ b.front) b.inner b.back b.last (n - block.0) (n - block.1) split (omega arith) (omega arith))

outside_is : (limit : ℕ) (ts : List Token) (p : Parsed) → AreTokens ts → parsed limit (signs_of ts).signs ≡ Ok p → outside ts ≡ around p.script ts
outside_is limit ts p are e =
    let w = said_is_saying limit (signs_of ts).signs p e in
    let s = w.read.spelled in
    let f = s.1 in
    let q = passes true (IsSort heads rule levels) (sorts_pass levels) (many false declaration) refl ts (signs_of ts).signs s.0.0 f.front f.mid f.first (file_alike ts are) in
    let script : s.0.1.0 ≡ w.script = ap (λ (x : File). x.script) s.2 in
    let count = count_all ts are in
    let left : length q.back ≡ length f.mid + 1 = (let i = q.count in let j = ap length q.split in let k = length-append q.front q.back in omega arith) in
    q.kept
    ∙ (rest_kept q.front q.back f.mid (length (signs_of ts).signs) s.0.1.0 s.0.1.1 f.back f.second q.alike left q.count
    ∙ (ap (λ l. around (range_of (length (signs_of ts).signs) s.0.1.0) l) (sym q.split)
    ∙ (ap (λ o. around (range_of (length (signs_of ts).signs) o) ts) script ∙ ap (λ o. around o ts) (sym w.range))))

-- the names of a file are those outside its block
pub names_around : (limit : ℕ) (ts : List Token) (p : Parsed) → AreTokens ts → parsed limit (signs_of ts).signs ≡ Ok p → (signs_of ts).names ≡ (signs_in (around p.script ts)).names
names_around limit ts p are e = names_outside ts are ∙ ap (λ l. (signs_in l).names) (outside_is limit ts p are e)
