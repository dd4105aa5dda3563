-- Lists that are read one by one.
use Rattle.std.proofs.Common.{◌≡◌, ◌≢◌, ⊎_elim, ℕ, ◌+◌, ◌<◌, eqb, List, [], ◌∷◌, ◌++◌, length, get_or, map, set, refl, sym, ◌∙◌, ap, subst, arith}
use Rattle.std.specs.Prelude.{Option, Some, Result, Ok, Err, MatchResult, IsOk, IfSome}
use Rattle.std.proofs.lemmas.Bool.{cases_eq, eq-eqb, ne_eqb}
use Rattle.std.proofs.lemmas.List.{get_or-set_same, get_or-set_other, length-map}
use Rattle.std.proofs.lemmas.List.FromFn.{length-range_with_len}
use Rattle.mv_model.specs.declared.shape.Kind.{Kind}
use Rattle.mv_model.specs.declared.shape.Kind.TheVariants as kind
use Rattle.mv_model.specs.declared.shape.Column.{Column}
use Rattle.image_layout.specs.Places.{below}
use Rattle.image_layout.proofs.Ranges.{below_more}
use Rattle.shown_state.specs.LogicalState.{kind_of}

map_last : {X Y : Type 0} (f : X → Y) (xs : List X) (x : X) → map f (xs ++ x ∷ []) ≡ map f xs ++ f x ∷ []
map_last f [] x = refl
map_last f (y ∷ xs) x = ap (λ zs. f y ∷ zs) (map_last f xs x)

-- one more
pub map_next : {X : Type 0} (f : ℕ → X) (n : ℕ) → map f (below (n + 1)) ≡ map f (below n) ++ f n ∷ []
map_next f n = ap (map f) (below_more n) ∙ map_last f (below n) n

pub mapped_next : {X : Type 0} (f : ℕ → X) (g : ℕ → ℕ) (n : ℕ) → map f (map g (below (n + 1))) ≡ map f (map g (below n)) ++ f (g n) ∷ []
mapped_next f g n = ap (map f) (map_next g n) ∙ map_last f (map g (below n)) (g n)

pub mapped_count : {X : Type 0} (f : ℕ → X) (g : ℕ → ℕ) (n : ℕ) → length (map f (map g (below n))) ≡ n
mapped_count f g n = length-map (map g (below n)) f ∙ length-map (below n) g ∙ length-range_with_len 0 n

pub map_count : {X : Type 0} (f : ℕ → X) (n : ℕ) → length (map f (below n)) ≡ n
map_count f n = length-map (below n) f ∙ length-range_with_len 0 n

pub stored_byte : (f : ℕ → ℕ) (bytes : List ℕ) (byte value : ℕ) → length bytes ≡ 24 → byte < 24 → value ≡ f byte → ((k : ℕ) → k < byte → get_or bytes k 0 ≡ f k) → (k : ℕ) → k < byte + 1 → get_or (set bytes byte value) k 0 ≡ f k
stored_byte f bytes byte value size lt is done k within = ⊎_elim
    (λ (same : k ≡ byte). ap (λ (n : ℕ). get_or (set bytes byte value) n 0) same ∙ get_or-set_same bytes byte value 0 (omega (arith, size, lt)) ∙ is ∙ ap f (sym same))
    (λ apart. get_or-set_other bytes byte k value 0 apart ∙ done k (omega (arith, within, apart)))
    (cases_eq k byte)

pub ok_from : {T E : Type 0} (r : Result T E) (P : T → Type 0) (Q : E → Type 0) → MatchResult r P Q → ((e : E) → Q e → ⊥) → IsOk r
ok_from (Ok x) P Q match none = refl
ok_from (Err e) P Q match none = absurd (none e match)

pub some_is : {T : Type 0} (o : Option T) (P : T → Type 0) (x : T) → o ≡ Some x → IfSome o P → P x
some_is o P x is holds = subst (λ p. IfSome p P) is holds

-- ── columns ──

pub column_same : (name other : List ℕ) (a b : Kind) → name ≡ other → a ≡ b → ◌≡◌ {A = Column} (record { name = name; kind = a }) (record { name = other; kind = b })
column_same name other a b n k = ap (λ (x : List ℕ). with x a) n ∙ ap (λ (x : Kind). with other x) k
  where
    with : List ℕ → Kind → Column
    with x y = record { name = x; kind = y }

pub kind_text : (word : ℕ) → word ≡ 2 → kind.Text ≡ kind_of (eqb word 2)
kind_text word is = ap kind_of (sym (eq-eqb word 2 is))

pub kind_int : (word : ℕ) → word ≢ 2 → kind.Int ≡ kind_of (eqb word 2)
kind_int word apart = ap kind_of (sym (ne_eqb word 2 apart))
