-- Proof blocks: matched braces of the source, by the signs of its translation.
use Rattle.std.proofs.Common.{◌≡◌, ℕ, zero, suc, Bool, true, false, if◌then◌else◌, ◌||◌, inl, inr, List, [], ◌∷◌, ◌++◌, map, codes, refl, ap, sym, ◌∙◌, subst}
use Rattle.std.specs.Str.{bytes_eq}
use Rattle.std.proofs.lemmas.Bool.{or_parts, both_ways}
use Rattle.std.proofs.lemmas.List.{append_assoc}
use Rattle.std.proofs.lemmas.Slice.Eq.{bytes_eq-Decides}
use Rattle.cv_lex.specs.Lexis.{Token}
use Rattle.cv_syntax_trees.specs.Tree.{Tree}
use Rattle.cv_parse_notation.specs.declared.sign.Mark.TheVariants as mark
use Rattle.cv_parse_notation.specs.declared.sign.Sign.{Sign}
use Rattle.cv_parse_notation.specs.declared.sign.Sign.TheVariants as sign
use Rattle.cv_parse_notation.specs.Form.{deeper, either, made, other}
use Rattle.cv_parse_notation.specs.Spells.{Each, Kind, Spells, Use, is_other, kind_of, starts}
use Rattle.cv_parse_grammar.specs.declared.role.Role.{Role}
use Rattle.cv_parse_grammar.specs.Phrases.{Phrase}
use Rattle.cv_parse_grammar.specs.Phrases as sort
use Rattle.cv_parse_grammar.specs.Rules.{braces, heads, matched}
use Rattle.cv_parse_tables.proofs.terminals.Naming.{text_test}
use Rattle.cv_parse_tables.specs.terminals.Braces.{open_behind, read_from}
use Rattle.cv_oracles.specs.Regions.{is_own_word}
use Rattle.cv_oracles.specs.Translations.{is_process}
use Rattle.cv_oracle_laws.specs.Tokens.{symbol, Is, is_brace, AreBraced, none, another, pair}
use Rattle.cv_oracle_laws.specs.OracleFiles.{IsBlock, in_block}
use Rattle.cv_oracle_laws.proofs.Parts.{has_process, Scans, on, fewer, same_depth}
use Rattle.cv_oracle_laws.proofs.Spelled as spelled
use Rattle.cv_oracle_laws.proofs.Spelled.{AllOf, IsOne, by_row, is_before, is_behind, is_level, is_made, is_of, room, below}
use Rattle.cv_oracle_laws.proofs.Telling.{Tell, same_text}
use Rattle.cv_oracle_laws.proofs.Regions.{brace_read, brace_sign}

-- tokens of a block and what is written for them

own_no_brace : (t : Token) → is_own_word t.text ≡ true → is_brace t.text ≡ false
own_no_brace t e = elim (text_test t.text (codes "{")) [
  | inl a ↦ absurd (both_ways (is_own_word t.text) (ap is_own_word a.1) e)
  | inr a ↦ elim (text_test t.text (codes "}")) [
    | inl b ↦ absurd (both_ways (is_own_word t.text) (ap is_own_word b.1) e)
    | inr b ↦ λ i. a i || b i
  ]
]

no_brace_there : (t : Token) → is_brace (in_block t).text ≡ false → is_brace t.text ≡ false
no_brace_there t = by_own (is_own_word t.text) refl where
  by_own : (b : Bool) → is_own_word t.text ≡ b → is_brace (if b then symbol (codes ":=") else t).text ≡ false → is_brace t.text ≡ false
  by_own true e f = own_no_brace t e
  by_own false e f = f

pub text_there : (t : Token) (text : List ℕ) → bytes_eq (codes ":=") text ≡ false → (in_block t).text ≡ text → t.text ≡ text
text_there t text n = by_own (is_own_word t.text) where
  by_own : (b : Bool) → (if b then symbol (codes ":=") else t).text ≡ text → t.text ≡ text
  by_own true e = absurd (both_ways (bytes_eq (codes ":=") text) n ((bytes_eq-Decides (codes ":=") text).1 e))
  by_own false e = e

depth_there : (depth : ℕ) (t : Token) → open_behind depth (in_block t).text ≡ open_behind depth t.text
depth_there depth t = by_own (is_own_word t.text) refl where
  by_own : (b : Bool) → is_own_word t.text ≡ b → open_behind depth (if b then symbol (codes ":=") else t).text ≡ open_behind depth t.text
  by_own true e = sym (same_depth depth t.text (own_no_brace t e))
  by_own false e = refl

braced_both : (a b : List Token) → AreBraced a → AreBraced b → AreBraced (a ++ b)
braced_both [] b none y = y
braced_both (t ∷ a) b (another e x) y = another e (braced_both a b x y)
braced_both (t ∷ whole) b (pair inner closer ms e x f z) y = subst (λ l. AreBraced (t ∷ l)) (sym (append_assoc inner (closer ∷ ms) b)) (pair inner closer (ms ++ b) e x f (braced_both ms b z y))

-- What is said of the tokens of a block: S of those that are left, at each depth, and that none are left before the braces are closed.
module _ (tail : List Token) (S : ℕ → List Token → Type 0) (next : (depth : ℕ) (t : Token) (b : List Token) → S depth (t ∷ b) → S (open_behind depth t.text) b)
    (stuck : (depth : ℕ) (s : Sign) (gs : List Sign) → S (suc depth) [] → Tell (read_from (suc depth) tail) (s ∷ gs) → ⊥) where
  -- matched tokens within braces, and what is behind them
  pub record Within (depth : ℕ) (b : List Token) (rest : List Sign) : Type 0 where
    pub inner : List Token
    pub back : List Token
    pub split : b ≡ inner ++ back
    pub braced : AreBraced inner
    pub scans : S (suc depth) back
    pub tell : Tell (read_from (suc depth) (map in_block back ++ tail)) rest

  within_none : (depth : ℕ) (b : List Token) (gs rest : List Sign) → gs ≡ rest → S (suc depth) b → Tell (read_from (suc depth) (map in_block b ++ tail)) gs → Within depth b rest
  within_none depth b gs rest e s a = record { inner = []; back = b; split = refl; braced = none; scans = s; tell = subst (Tell (read_from (suc depth) (map in_block b ++ tail))) e a }

  within_then : (depth : ℕ) (b : List Token) (mid rest : List Sign) → (w : Within depth b mid) → Within depth w.back rest → Within depth b rest
  within_then depth b mid rest w v = record {
    inner = w.inner ++ v.inner;
    back = v.back;
    split = w.split ∙ ap (λ l. w.inner ++ l) v.split ∙ sym (append_assoc w.inner v.inner v.back);
    braced = braced_both w.inner v.inner w.braced v.braced;
    scans = v.scans;
    tell = v.tell;
  }

  -- one token that is no brace
  within_one : (depth : ℕ) (b : List Token) (s : Sign) (rest : List Sign) → is_other (kind_of s) ≡ true → S (suc depth) b → Tell (read_from (suc depth) (map in_block b ++ tail)) (s ∷ rest) → Within depth b rest
  unfolding read_from
  within_one depth [] s rest o x a = absurd (stuck depth s rest x a)
  within_one depth (t ∷ b) s rest o c a =
      let e = no_brace_there t (brace_sign (in_block t) depth s o a.0) in
      let d = same_depth (suc depth) t.text e in
      record {
        inner = t ∷ [];
        back = b;
        split = refl;
        braced = another e none;
        scans = subst (λ k. S k b) d (next (suc depth) t b c);
        tell = subst (λ k. Tell (read_from k (map in_block b ++ tail)) rest) (depth_there (suc depth) t ∙ d) a.1;
      }

  abbrev pub Low : ℕ → Type 0
  Low n = (depth : ℕ) (b : List Token) (gs : List Sign) (t : Tree) (us : List (Use Role)) (rest : List Sign) → below n sort.Braces gs t us rest → S (suc depth) b → Tell (read_from (suc depth) (map in_block b ++ tail)) gs → Within depth b rest

  abbrev part : Phrase (Unit {0})
  part = either (made (λ _. tt) (deeper sort.Braces)) other

  module _ (n : ℕ) (low : Low n) where
    part_within : (depth : ℕ) (b : List Token) (gs : List Sign) (u : Unit {0}) (us : List (Use Role)) (rest : List Sign) → Spells heads (room n) (below n) part gs u us rest → S (suc depth) b → Tell (read_from (suc depth) (map in_block b ++ tail)) gs → Within depth b rest
    part_within depth b gs u us rest d s a = elim d as (λ _. Within depth b rest) [
      | inl x ↦ low depth b gs x.0 us rest x.1 s a
      | inr x ↦ within_one depth b x.1.0 rest x.1.1 s (subst (Tell (read_from (suc depth) (map in_block b ++ tail))) x.1.2.tokens a)
    ]

    parts_within : (l : List (Unit {0})) (k : Kind → Bool) (depth : ℕ) (b : List Token) (gs : List Sign) (us : List (Use Role)) (rest : List Sign) → Each (Spells heads (room n) (below n) part) false k gs l us rest → S (suc depth) b → Tell (read_from (suc depth) (map in_block b ++ tail)) gs → Within depth b rest
    parts_within [] k depth b gs us rest d s a = within_none depth b gs rest d.0.tokens s a
    parts_within (u ∷ l) k depth b gs us rest d s a =
        let w = part_within depth b gs u d.front d.mid d.first s a in
        within_then depth b d.mid rest w (parts_within l k depth w.back d.mid d.back rest d.second w.scans w.tell)

    pub matched_within : (depth : ℕ) (b : List Token) (gs rest : List Sign) → spelled.Is n matched gs rest → S (suc depth) b → Tell (read_from (suc depth) (map in_block b ++ tail)) gs → Within depth b rest
    matched_within depth b gs rest x s a = parts_within x.value (λ k. starts {R = Role} heads part k) depth b gs x.uses rest x.spelled s a

    -- a brace, matched tokens and the brace that closes it
    braces_within : (depth : ℕ) (b : List Token) (gs rest : List Sign) → spelled.Is n braces gs rest → S (suc depth) b → Tell (read_from (suc depth) (map in_block b ++ tail)) gs → Within depth b rest
    unfolding read_from
    braces_within depth [] gs rest x c a = let i = is_behind (is_level x).1 in absurd (stuck depth (sign.Mark mark.OpenBrace) i.0 c (subst (Tell (read_from (suc depth) tail)) i.1 a))
    braces_within depth (t ∷ b) gs rest x c a =
        let i = is_behind (is_level x).1 in
        let m = is_made (is_before i.2) in
        let y = subst (Tell (read_from (suc depth) (map in_block (t ∷ b) ++ tail))) i.1 a in
        let e = text_there t (codes "{") refl (brace_read (in_block t) depth mark.OpenBrace refl (λ z. both_ways (bytes_eq (codes "{") (codes ";")) refl (ap (λ q. bytes_eq q (codes ";")) z)) y.0) in
        let deep : open_behind (suc depth) t.text ≡ suc (suc depth) = ap (open_behind (suc depth)) e in
        let w = matched_within (suc depth) b i.0 (sign.Mark mark.CloseBrace ∷ rest) m (subst (λ k. S k b) deep (next (suc depth) t b c)) (subst (λ k. Tell (read_from k (map in_block b ++ tail)) i.0) (depth_there (suc depth) t ∙ deep) y.1) in
        closing depth t b rest e w.inner w.back w.split w.braced w.scans w.tell
      where
        closing : (depth : ℕ) (t : Token) (b : List Token) (rest : List Sign) → Is t (codes "{") → (inner back : List Token) → b ≡ inner ++ back → AreBraced inner → S (suc (suc depth)) back → Tell (read_from (suc (suc depth)) (map in_block back ++ tail)) (sign.Mark mark.CloseBrace ∷ rest) → Within depth (t ∷ b) rest
        closing depth t b rest e inner [] split br x a = absurd (stuck (suc depth) (sign.Mark mark.CloseBrace) rest x a)
        closing depth t b rest e inner (c ∷ back) split br s a =
            let i = text_there c (codes "}") refl (brace_read (in_block c) (suc depth) mark.CloseBrace refl (λ z. both_ways (bytes_eq (codes "}") (codes ";")) refl (ap (λ q. bytes_eq q (codes ";")) z)) a.0) in
            let up : open_behind (suc (suc depth)) c.text ≡ suc depth = ap (open_behind (suc (suc depth))) i ∙ fewer (suc depth) in
            record {
              inner = t ∷ inner ++ c ∷ [];
              back = back;
              split = ap (λ l. t ∷ l) (split ∙ sym (append_assoc inner (c ∷ []) back));
              braced = pair inner c [] e br i none;
              scans = subst (λ k. S k back) up (next (suc (suc depth)) c back s);
              tell = subst (λ k. Tell (read_from k (map in_block back ++ tail)) rest) (depth_there (suc (suc depth)) c ∙ up) a.1;
            }

  all_braces : (n : ℕ) → Low n
  all_braces zero depth b gs t us rest d s a = absurd d
  all_braces (suc n) depth b gs t us rest d s a = braces_within n (all_braces n) depth b gs rest (by_row n sort.Braces gs rest (record { value = t; uses = us; spelled = d })) s a

scans_next : (depth : ℕ) (t : Token) (b : List Token) → Scans depth (t ∷ b) → Scans (open_behind depth t.text) b
scans_next depth t b (on f s) = s

scans_stuck : (tail : List Token) (depth : ℕ) (s : Sign) (gs : List Sign) → Scans (suc depth) [] → Tell (read_from (suc depth) tail) (s ∷ gs) → ⊥
scans_stuck tail depth s gs x a = elim x [ ]

-- a whole block, up to the word `process` behind it
pub record Blocked (block tail : List Token) (gs : List Sign) : Type 0 where
  pub block_is : IsBlock block
  pub tell : Tell (read_from 0 tail) (sign.Mark mark.Process ∷ gs)

pub block_back : (n : ℕ) (proof : Token) (b : List Token) (process : Token) (ps : List Token) (inner gs : List Sign) → Is proof (codes "proof") → Is process (codes "process") → Scans 0 (proof ∷ b) → spelled.Is n matched inner (sign.Mark mark.CloseBrace ∷ sign.Mark mark.Process ∷ gs) →
    Tell (read_from 0 (map in_block (proof ∷ b) ++ process ∷ ps)) (sign.Mark mark.Proof ∷ sign.Mark mark.OpenBrace ∷ inner) → Blocked (proof ∷ b) (process ∷ ps) gs
unfolding read_from
block_back n proof b process ps inner gs p q (on f s) x a =
    let none_open : open_behind 0 proof.text ≡ 0 = ap (open_behind 0) p in
    opened b (subst (λ k. Scans k b) none_open s) (subst (λ k. Tell (read_from k (map in_block b ++ process ∷ ps)) (sign.Mark mark.OpenBrace ∷ inner)) (depth_there 0 proof ∙ none_open) a.1)
  where
    closed : (o : Token) (m back : List Token) → Is o (codes "{") → AreBraced m → Scans 1 back → Tell (read_from 1 (map in_block back ++ process ∷ ps)) (sign.Mark mark.CloseBrace ∷ sign.Mark mark.Process ∷ gs) → Blocked (proof ∷ o ∷ m ++ back) (process ∷ ps) gs
    closed o m [] i br x a = elim x [ ]
    closed o m (c ∷ back) i br (on f s) a =
        let k = text_there c (codes "}") refl (brace_read (in_block c) 0 mark.CloseBrace refl (λ z. both_ways (bytes_eq (codes "}") (codes ";")) refl (ap (λ q. bytes_eq q (codes ";")) z)) a.0) in
        let up : open_behind 1 c.text ≡ 0 = ap (open_behind 1) k in
        over_there back (subst (λ j. Scans j back) up s) (subst (λ j. Tell (read_from j (map in_block back ++ process ∷ ps)) (sign.Mark mark.Process ∷ gs)) (depth_there 1 c ∙ up) a.1) k
      where
        over_there : (back : List Token) → Scans 0 back → Tell (read_from 0 (map in_block back ++ process ∷ ps)) (sign.Mark mark.Process ∷ gs) → Is c (codes "}") → Blocked (proof ∷ o ∷ m ++ c ∷ back) (process ∷ ps) gs
        over_there [] s a k = record { block_is = record { proof = proof; opener = o; inner = m; closer = c; split = refl; begins = p; opens = i; braced = br; closes = k }; tell = a }
        over_there (y ∷ back) (on f s) a k =
            let z = text_there y (codes "process") refl (same_text (in_block y) mark.Process refl a.0) in
            absurd (both_ways (is_process 0 y.text) f (ap (is_process 0) z))

    opened : (b : List Token) → Scans 0 b → Tell (read_from 0 (map in_block b ++ process ∷ ps)) (sign.Mark mark.OpenBrace ∷ inner) → Blocked (proof ∷ b) (process ∷ ps) gs
    opened [] s a = absurd (both_ways (bytes_eq process.text (codes "{")) (ap (λ x. bytes_eq x (codes "{")) q) (ap (λ x. bytes_eq x (codes "{")) (same_text process mark.OpenBrace refl a.0)))
    opened (o ∷ b) (on f s) a =
        let i = text_there o (codes "{") refl (same_text (in_block o) mark.OpenBrace refl a.0) in
        let deep : open_behind 0 o.text ≡ 1 = ap (open_behind 0) i in
        let w = matched_within (process ∷ ps) Scans scans_next (scans_stuck (process ∷ ps)) n (all_braces (process ∷ ps) Scans scans_next (scans_stuck (process ∷ ps)) n) 0 b inner (sign.Mark mark.CloseBrace ∷ sign.Mark mark.Process ∷ gs) x (subst (λ k. Scans k b) deep s) (subst (λ k. Tell (read_from k (map in_block b ++ process ∷ ps)) inner) (depth_there 0 o ∙ deep) a.1) in
        subst (λ l. Blocked (proof ∷ o ∷ l) (process ∷ ps) gs) (sym w.split) (closed o w.inner w.back i w.braced w.scans w.tell)

-- without that word no block is whole

abbrev pub Wordless : ℕ → List Token → Type 0
Wordless depth b = has_process depth b ≡ false

wordless_next : (depth : ℕ) (t : Token) (b : List Token) → Wordless depth (t ∷ b) → Wordless (open_behind depth t.text) b
wordless_next depth t b h = (or_parts (is_process depth t.text) (has_process (open_behind depth t.text) b) h).1

wordless_stuck : (depth : ℕ) (s : Sign) (gs : List Sign) → Wordless (suc depth) [] → Tell (read_from (suc depth) []) (s ∷ gs) → ⊥
unfolding read_from
wordless_stuck depth s gs h a = a

pub no_word : (b : List Token) (gs : List Sign) → Wordless 0 b → Tell (read_from 0 (map in_block b ++ [])) (sign.Mark mark.Process ∷ gs) → ⊥
unfolding read_from
no_word [] gs h a = a
no_word (y ∷ b) gs h a =
    let z = text_there y (codes "process") refl (same_text (in_block y) mark.Process refl a.0) in
    both_ways (is_process 0 y.text) (or_parts (is_process 0 y.text) (has_process (open_behind 0 y.text) b) h).0 (ap (is_process 0) z)

pub no_block_back : (n : ℕ) (b : List Token) (inner gs : List Sign) → Wordless 0 b → spelled.Is n matched inner (sign.Mark mark.CloseBrace ∷ sign.Mark mark.Process ∷ gs) →
    Tell (read_from 0 (map in_block b ++ [])) (sign.Mark mark.Proof ∷ sign.Mark mark.OpenBrace ∷ inner) → ⊥
unfolding read_from
no_block_back n [] inner gs h x a = a
no_block_back n (proof ∷ b) inner gs h x a =
    let p = text_there proof (codes "proof") refl (same_text (in_block proof) mark.Proof refl a.0) in
    let none_open : open_behind 0 proof.text ≡ 0 = ap (open_behind 0) p in
    opened b (subst (λ k. Wordless k b) none_open (wordless_next 0 proof b h)) (subst (λ k. Tell (read_from k (map in_block b ++ [])) (sign.Mark mark.OpenBrace ∷ inner)) (depth_there 0 proof ∙ none_open) a.1)
  where
    closed : (back : List Token) → Wordless 1 back → Tell (read_from 1 (map in_block back ++ [])) (sign.Mark mark.CloseBrace ∷ sign.Mark mark.Process ∷ gs) → ⊥
    closed [] h a = a
    closed (c ∷ back) h a =
        let k = text_there c (codes "}") refl (brace_read (in_block c) 0 mark.CloseBrace refl (λ z. both_ways (bytes_eq (codes "}") (codes ";")) refl (ap (λ q. bytes_eq q (codes ";")) z)) a.0) in
        let up : open_behind 1 c.text ≡ 0 = ap (open_behind 1) k in
        no_word back gs (subst (λ j. Wordless j back) up (wordless_next 1 c back h)) (subst (λ j. Tell (read_from j (map in_block back ++ [])) (sign.Mark mark.Process ∷ gs)) (depth_there 1 c ∙ up) a.1)

    opened : (b : List Token) → Wordless 0 b → Tell (read_from 0 (map in_block b ++ [])) (sign.Mark mark.OpenBrace ∷ inner) → ⊥
    opened [] h a = a
    opened (o ∷ b) h a =
        let i = text_there o (codes "{") refl (same_text (in_block o) mark.OpenBrace refl a.0) in
        let deep : open_behind 0 o.text ≡ 1 = ap (open_behind 0) i in
        let w = matched_within [] Wordless wordless_next wordless_stuck n (all_braces [] Wordless wordless_next wordless_stuck n) 0 b inner (sign.Mark mark.CloseBrace ∷ sign.Mark mark.Process ∷ gs) x (subst (λ k. Wordless k b) deep (wordless_next 0 o b h)) (subst (λ k. Tell (read_from k (map in_block b ++ [])) inner) (depth_there 0 o ∙ deep) a.1) in
        closed w.back w.scans w.tell
