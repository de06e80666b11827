-- The piece lies apart from the others.
use Rattle.std.proofs.Common.{◌≡◌, ℕ, ◌+◌, ◌-◌, ◌<◌, ◌≤◌, List, Option, Some, false, is_some, length, map, sym, ap, ◌∙◌, subst, arith}
use Rattle.std.specs.List.{list_any}
use Rattle.std.specs.BTreeMap.{insert_entry}
use Rattle.std.specs.Ordering.{nat_cmp}
use Rattle.cp_base.specs.Buffer.{Buffer}
use Rattle.cp_base.specs.Pieces.{patched, piece}
use Rattle.program_slots.specs.Spread.{AreSpread, loaded_in, spread}
use Rattle.program_slots.proofs.Spreading.{covered, disjoint_inserted, few_loaded, length-spread, loaded_inserted, part_covered, spread_inserted}
use Rattle.program_slots.proofs.pieces.Pieces.put.Goals as goal

-- what is known where a piece is put: the pieces before, the place, the bytes and their copy
record Puts (size at : ℕ) (now : List (Option ℕ)) (es : List (ℕ × Buffer)) (bytes : List ℕ) (kept : Buffer) : Type 0 where
  view : spread 0 size es ≡ now
  apart : AreSpread 0 size es
  some : 0 < length bytes
  inside : at + length bytes ≤ length now
  missing : list_any (λ (byte : Option ℕ). is_some byte) (piece now at (length bytes)) ≡ false
  copy : kept.items ≡ bytes

within : (size at : ℕ) (now : List (Option ℕ)) (es : List (ℕ × Buffer)) (bytes : List ℕ) (kept : Buffer) → Puts size at now es bytes kept → at + length kept.items ≤ size
within size at now es bytes kept p =
    let long = length-spread 0 size es p.apart in
    let same : length (spread 0 size es) ≡ length now = ap length p.view in
    let copied : length kept.items ≡ length bytes = ap length p.copy in
    omega (arith, p.inside)

free : (size at : ℕ) (now : List (Option ℕ)) (es : List (ℕ × Buffer)) (bytes : List ℕ) (kept : Buffer) → Puts size at now es bytes kept
    → covered at (at + length kept.items) es ≡ false
free size at now es bytes kept p =
    ap (λ (b : List ℕ). covered at (at + length b) es) p.copy ∙ sym (part_covered size at (length bytes) es p.apart p.some)
    ∙ ap (λ (xs : List (Option ℕ)). list_any (λ (byte : Option ℕ). is_some byte) (piece xs at (length bytes))) p.view ∙ p.missing

copied_some : (size at : ℕ) (now : List (Option ℕ)) (es : List (ℕ × Buffer)) (bytes : List ℕ) (kept : Buffer) → Puts size at now es bytes kept → 0 < length kept.items
copied_some size at now es bytes kept p = subst (λ (b : List ℕ). 0 < length b) (sym p.copy) p.some

apart_after : (size at : ℕ) (now : List (Option ℕ)) (es : List (ℕ × Buffer)) (bytes : List ℕ) (kept : Buffer) → Puts size at now es bytes kept
    → AreSpread 0 size (insert_entry nat_cmp es at kept)
apart_after size at now es bytes kept p =
    disjoint_inserted 0 size at kept es p.apart (omega arith) (within size at now es bytes kept p) (copied_some size at now es bytes kept p) (free size at now es bytes kept p)

loaded_after : (size at : ℕ) (now : List (Option ℕ)) (es : List (ℕ × Buffer)) (bytes : List ℕ) (kept : Buffer) → Puts size at now es bytes kept
    → loaded_in (insert_entry nat_cmp es at kept) ≡ length bytes + loaded_in es
loaded_after size at now es bytes kept p =
    loaded_inserted 0 size at kept es p.apart (copied_some size at now es bytes kept p) (free size at now es bytes kept p) ∙ ap (λ (b : List ℕ). length b + loaded_in es) p.copy

bytes_after : (size at : ℕ) (now : List (Option ℕ)) (es : List (ℕ × Buffer)) (bytes : List ℕ) (kept : Buffer) → Puts size at now es bytes kept
    → spread 0 size (insert_entry nat_cmp es at kept) ≡ patched now at (map (λ byte. Some byte) bytes)
bytes_after size at now es bytes kept p =
    let i : at - 0 ≡ at = omega arith in
    spread_inserted 0 size at kept es p.apart (omega arith) (within size at now es bytes kept p) (copied_some size at now es bytes kept p) (free size at now es bytes kept p)
    ∙ ap (λ (k : ℕ). patched (spread 0 size es) k (map (λ byte. Some byte) kept.items)) i
    ∙ ap (λ (xs : List (Option ℕ)). patched xs at (map (λ byte. Some byte) kept.items)) p.view
    ∙ ap (λ (b : List ℕ). patched now at (map (λ byte. Some byte) b)) p.copy

pub overflow_add-self : goal.overflow_add-self
overflow_add-self c =
    let few = few_loaded 0 c.self.inside.size c.self.inside.pieces.entries c.self.invariant.1 in
    let long = length-spread 0 c.self.inside.size c.self.inside.pieces.entries c.self.invariant.1 in
    let same : length (spread 0 c.self.inside.size c.self.inside.pieces.entries) ≡ length c.args.self.now = ap length c.self.view_is in
    omega (arith, c.self.invariant.0, c.self.invariant.2, c.requires.inside, c.len.ensures)

pub invariant_of-self-2 : goal.invariant_of-self-2
invariant_of-self-2 c =
    let p : Puts c.self.inside.size c.args.at c.args.self.now c.self.inside.pieces.entries c.args.bytes.now.items c.in_ok-kept.kept = record {
      view = c.self.view_is;
      apart = c.self.invariant.1;
      some = c.requires.some;
      inside = c.requires.inside;
      missing = c.requires.missing;
      copy = c.in_ok-kept.ensures.items ∙ c.as_slice.ensures;
    } in
    let loaded = loaded_after _ _ _ _ _ _ p in
    let count : c.self.inside.loaded + c.len.result ≡ length c.args.bytes.now.items + loaded_in c.self.inside.pieces.entries = omega (arith, c.self.invariant.2, c.len.ensures) in (
      c.self.invariant.0,
      subst (AreSpread 0 c.self.inside.size) (sym c.in_ok-insert.ensures.entries) (apart_after _ _ _ _ _ _ p),
      count ∙ sym loaded ∙ ap loaded_in (sym c.in_ok-insert.ensures.entries),
    )

pub returns-clause-put : goal.returns-clause-put
returns-clause-put c =
    let p : Puts c.self.inside.size c.args.at c.args.self.now c.self.inside.pieces.entries c.args.bytes.now.items c.in_ok-kept.kept = record {
      view = c.self.view_is;
      apart = c.self.invariant.1;
      some = c.requires.some;
      inside = c.requires.inside;
      missing = c.requires.missing;
      copy = c.in_ok-kept.ensures.items ∙ c.as_slice.ensures;
    } in
    ap (spread 0 c.self.inside.size) c.in_ok-insert.ensures.entries ∙ bytes_after _ _ _ _ _ _ p
