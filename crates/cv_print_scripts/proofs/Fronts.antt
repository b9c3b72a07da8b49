-- Texts with their signs, one in front of another.
use Rattle.std.proofs.Common.{◌≡◌, ℕ, Bool, true, false, ◌&&◌, ◌||◌, not, List, [], ◌++◌, map, refl, sym, subst, append_assoc}
use Rattle.std.specs.Prelude.{⊤}
use Rattle.std.proofs.lemmas.List.{append-nil, map-append}
use Rattle.cv_parse_notation.specs.declared.sign.Sign.{Sign}
use Rattle.cv_print_scripts.specs.steps.Shown.{spoken}
use Rattle.cv_print_scripts.specs.Parted.{is_apart}
use Rattle.cv_print_scripts.specs.Texts.{words_among}
use Rattle.cv_print_scripts.proofs.Tokens.{Reads}

-- a text begins so, if that is asked
abbrev pub Begins : Bool → List ℕ → Type 0
Begins true text = is_apart text ≡ true
Begins false text = ⊤

pub begins_so : (p : Bool) (text : List ℕ) → is_apart text ≡ true → Begins p text
begins_so true text e = e
begins_so false text e = tt

pub lower : (p q : Bool) (text : List ℕ) → (not p || q) ≡ true → Begins q text → Begins p text
lower true true text c h = h
lower true false text c h = absurd (cc)
lower false q text c h = tt

-- in front of a text that begins as q asks, this one has these signs, and begins as p asks
pub record Front (names behind : List (List ℕ)) (p q : Bool) (text : List ℕ) (ss : List Sign) : Type 0 where
  pub goes : (rest : List ℕ) (more : List Sign) → Begins q rest → Reads names behind rest more → Begins p (text ++ rest) × Reads names behind (text ++ rest) (ss ++ more)

pub none : {names behind : List (List ℕ)} {p : Bool} → Front names behind p true [] []
none {p = p} = record { goes = λ rest more h w. (begins_so p rest h, w) }

pub nothing : {names behind : List (List ℕ)} {p : Bool} → Front names behind p p [] []
nothing = record { goes = λ rest more h w. (h, w) }

both_again : (names behind : List (List ℕ)) (p : Bool) (a b rest : List ℕ) (l : List Sign) → Begins p (a ++ (b ++ rest)) × Reads names behind (a ++ (b ++ rest)) l → Begins p ((a ++ b) ++ rest) × Reads names behind ((a ++ b) ++ rest) l
both_again names behind p a b rest l r = subst (λ z. Begins p z × Reads names behind z l) (sym (append_assoc a b rest)) r

-- one in front of another
pub both : {names behind : List (List ℕ)} (p m n q : Bool) (a b : List ℕ) (s t : List Sign) → (not m || n) ≡ true → Front names behind p m a s → Front names behind n q b t → Front names behind p q (a ++ b) (s ++ t)
both {names = names} {behind = behind} p m n q a b s t c f g = record {
  goes = λ rest more h w.
      let v = g.goes rest more h w in
      let u = f.goes (b ++ rest) (t ++ more) (lower m n (b ++ rest) c v.0) v.1 in
      both_again names behind p a b rest ((s ++ t) ++ more) (subst (λ l. Begins p (a ++ (b ++ rest)) × Reads names behind (a ++ (b ++ rest)) l) (sym (append_assoc s t more)) u);
}

-- less is promised, and more is asked
pub weaker : {names behind : List (List ℕ)} (p q p' q' : Bool) (a : List ℕ) (s : List Sign) → (not p' || p) ≡ true → (not q || q') ≡ true → Front names behind p q a s → Front names behind p' q' a s
weaker p q p' q' a s c d f = record {
  goes = λ rest more h w. let v = f.goes rest more (lower q q' rest d h) w in (lower p' p (a ++ rest) c v.0, v.1);
}

pub at_end : {names behind : List (List ℕ)} (p q : Bool) (a : List ℕ) (s : List Sign) → Front names behind p q a s → Front names behind p q (a ++ []) (s ++ [])
at_end {names = names} {behind = behind} p q a s f = subst (λ z. Front names behind p q z (s ++ [])) (sym (append-nil a)) (subst (λ l. Front names behind p q a l) (sym (append-nil s)) f)

-- the tests

pub same : (p : Bool) → (not p || p) ≡ true
same true = refl
same false = refl

pub always : (p : Bool) → (not p || true) ≡ true
always true = refl
always false = refl

pub left_and : (p q : Bool) → (not (p && q) || p) ≡ true
left_and true true = refl
left_and true false = refl
left_and false q = refl

pub right_and : (p q : Bool) → (not (p && q) || q) ≡ true
right_and true true = refl
right_and true false = refl
right_and false q = refl

pub left_or : (p q : Bool) → (not p || (p || q)) ≡ true
left_or true q = refl
left_or false q = refl

pub right_or : (p q : Bool) → (not q || (p || q)) ≡ true
right_or true true = refl
right_or true false = refl
right_or false true = refl
right_or false false = refl

-- signs as a script with these names has them
abbrev pub say : List (List ℕ) → List Sign → List Sign
say behind ss = map (spoken (words_among behind)) ss

-- a text with the signs that it has in a file
pub record Told (names behind : List (List ℕ)) (p q : Bool) (text : List ℕ) (ss : List Sign) : Type 0 where
  pub front : Front names behind p q text (say behind ss)

-- the same, where further signs are put behind by a function
pub record Chain (names behind : List (List ℕ)) (p q : Bool) (text : List ℕ) (F : List Sign → List Sign) : Type 0 where
  pub goes : (rest : List ℕ) (more x : List Sign) → Begins q rest → Reads names behind rest (say behind x ++ more) → Begins p (text ++ rest) × Reads names behind (text ++ rest) (say behind (F x) ++ more)

say_append : (behind : List (List ℕ)) (s x more : List Sign) → say behind s ++ (say behind x ++ more) ≡ say behind (s ++ x) ++ more
say_append behind s x more = subst (λ l. say behind s ++ (say behind x ++ more) ≡ l ++ more) (sym (map-append (spoken (words_among behind)) s x)) (sym (append_assoc (say behind s) (say behind x) more))

pub first : {names behind : List (List ℕ)} {p q : Bool} {a : List ℕ} {s : List Sign} → Told names behind p q a s → Chain names behind p q a (λ x. s ++ x)
first {names = names} {behind = behind} {p = p} {a = a} {s = s} f = record {
  goes = λ rest more x h w. subst (λ l. Begins p (a ++ rest) × Reads names behind (a ++ rest) l) (say_append behind s x more) (f.front.goes rest (say behind x ++ more) h w);
}

infixl 30 ◌and◌
pub ◌and◌ : {names behind : List (List ℕ)} {p m q : Bool} {a b : List ℕ} {F : List Sign → List Sign} {t : List Sign} → Chain names behind p m a F → Told names behind m q b t → Chain names behind p q (a ++ b) (λ x. F (t ++ x))
◌and◌ {names = names} {behind = behind} {p = p} {a = a} {b = b} {F = F} {t = t} f g = record {
  goes = λ rest more x h w.
      let v = g.front.goes rest (say behind x ++ more) h w in
      both_again names behind p a b rest (say behind (F (t ++ x)) ++ more) (f.goes (b ++ rest) more (t ++ x) v.0 (subst (λ l. Reads names behind (b ++ rest) l) (say_append behind t x more) v.1));
}

infixl 30 ◌last◌
pub ◌last◌ : {names behind : List (List ℕ)} {p m q : Bool} {a b : List ℕ} {F : List Sign → List Sign} {t : List Sign} → Chain names behind p m a F → Told names behind m q b t → Told names behind p q (a ++ b) (F t)
◌last◌ {names = names} {behind = behind} {p = p} {a = a} {b = b} {F = F} {t = t} f g = record {
  front = record { goes = λ rest more h w. let v = g.front.goes rest more h w in both_again names behind p a b rest (say behind (F t) ++ more) (f.goes (b ++ rest) more t v.0 v.1) };
}
