-- Laws of a layout, for the crates above: where its regions lie (`laid`); that they are whole pages, of sizes above the limit too
-- (`whole_pages`).
-- Assumes nothing.
use Rattle.std.specs.Prelude.{◌≡◌, refl, Bool, true, false, ℕ, ◌+◌, ◌%◌, ◌≤◌, ◌<◌, eqb}
use Rattle.std.proofs.Common.{arith, rules, eqb-true}
use Rattle.std.proofs.lemmas.Bool.{eqb-false}
use Rattle.laws.specs.Choice.{pick}
use Rattle.laws.proofs.ChoiceLaws.{pick_all}
use Rattle.image_layout.specs.declared.Region.{Region}
use Rattle.image_layout.specs.declared.Sizes.{Sizes}
use Rattle.image_layout.specs.declared.MemoryLayout.{MemoryLayout}
use Rattle.image_layout.specs.Layout.{round_up, chr_ram_size, ciram_size, layout_of}

-- each size is at most 16,777,216
pub record Limited (s : Sizes) : Type 0 where
  pub prg_rom : s.prg_rom ≤ 16777216
  pub chr_rom : s.chr_rom ≤ 16777216
  pub chr_ram : s.chr_ram ≤ 16777216
  pub prg_ram : s.prg_ram ≤ 16777216
  pub battery_ext : s.battery_ext ≤ 16777216
  pub ciram : s.ciram ≤ 16777216
  pub ex_ram : s.ex_ram ≤ 16777216

-- a region of whole pages: from `ram_start` on if it is writable, else past page 0 and before `ram_start`
pub record Placed (l : MemoryLayout) (writable : Bool) (r : Region) : Type 0 where
  pub start_whole : r.start % 1024 ≡ 0
  pub len_whole : r.len % 1024 ≡ 0
  pub from : pick writable l.ram_start 1024 ≤ r.start
  pub upto : r.start + r.len ≤ pick writable l.len l.ram_start

-- the bounds of a layout, each region in its place, and CIRAM of at least a page
pub record Laid (l : MemoryLayout) : Type 0 where
  pub ram_from : 1024 ≤ l.ram_start
  pub ram_upto : l.ram_start ≤ l.len
  pub len_small : l.len ≤ 100664320
  pub prg_rom : Placed l false l.prg_rom
  pub chr : Placed l l.chr_writable l.chr
  pub prg_ram : Placed l true l.prg_ram
  pub battery_ext : Placed l true l.battery_ext
  pub ciram : Placed l true l.ciram
  pub ex_ram : Placed l true l.ex_ram
  pub ciram_some : 1024 ≤ l.ciram.len

-- the layout of sizes allowed

record Rounded (n r : ℕ) : Type 0 where
  whole : r % 1024 ≡ 0
  least : n ≤ r
  most : r ≤ 16777216

rounded : (n : ℕ) → n ≤ 16777216 → Rounded n (round_up n)
unfolding round_up
rounded n h = record { whole = omega arith; least = omega arith; most = omega arith }

none : round_up 0 ≡ 0
unfolding round_up
none = refl

-- only one of the two CHR takes space
chr_space : (s : Sizes) → Limited s → Rounded (chr_ram_size s) (round_up (chr_ram_size s)) × (round_up s.chr_rom + round_up (chr_ram_size s) ≤ 16777216)
unfolding chr_ram_size
chr_space s h =
    pick_all (λ (k : ℕ). Rounded k (round_up k) × (round_up s.chr_rom + round_up k ≤ 16777216)) (eqb s.chr_rom 0) s.chr_ram 0
    (λ e. (rounded _ h.chr_ram, let z : round_up s.chr_rom ≡ 0 = rw (eqb-true s.chr_rom 0 e) none in omega (arith, (rounded _ h.chr_ram).most)))
    (λ e. (rounded 0 (omega arith), omega (arith, none, (rounded _ h.chr_rom).most)))

ciram_space : (s : Sizes) → Limited s → Rounded (ciram_size s) (round_up (ciram_size s)) × (0 < ciram_size s)
unfolding ciram_size
ciram_space s h =
    pick_all (λ (k : ℕ). Rounded k (round_up k) × (0 < k)) (eqb s.ciram 0) 2048 s.ciram
    (λ e. (rounded 2048 (omega arith), omega arith))
    (λ e. (rounded s.ciram h.ciram, let ne = eqb-false s.ciram 0 e in omega arith))

chosen : (l : MemoryLayout) (t : Bool) (a b : Region) → Placed l true a → Placed l false b → Placed l t (pick t a b)
chosen l true a b h k = h
chosen l false a b h k = k

pub laid : (s : Sizes) → Limited s → Laid (layout_of s)
unfolding layout_of round_up
laid s h =
    let p = rounded s.prg_rom h.prg_rom in
    let c = rounded s.chr_rom h.chr_rom in
    let r = rounded s.prg_ram h.prg_ram in
    let b = rounded s.battery_ext h.battery_ext in
    let v = (chr_space s h).0 in
    let once = (chr_space s h).1 in
    let n = (ciram_space s h).0 in
    let some = (ciram_space s h).1 in
    let x = rounded s.ex_ram h.ex_ram in
    record {
      ram_from = omega arith;
      ram_upto = omega arith;
      len_small = omega arith;
      prg_rom = search rules;
      chr =
          chosen _ (eqb s.chr_rom 0) _ _
          (search rules)
          (search rules);
      prg_ram = search rules;
      battery_ext = search rules;
      ciram = search rules;
      ex_ram = search rules;
      ciram_some = omega arith;
    }

-- EACH REGION IS WHOLE PAGES, whatever the sizes

pub record WholePages (l : MemoryLayout) : Type 0 where
  pub prg_rom : l.prg_rom.len % 1024 ≡ 0
  pub chr : l.chr.len % 1024 ≡ 0
  pub prg_ram : l.prg_ram.len % 1024 ≡ 0
  pub battery_ext : l.battery_ext.len % 1024 ≡ 0
  pub ciram : l.ciram.len % 1024 ≡ 0
  pub ex_ram : l.ex_ram.len % 1024 ≡ 0

round_whole : (n : ℕ) → round_up n % 1024 ≡ 0
unfolding round_up
round_whole n = omega arith

pub whole_pages : (s : Sizes) → WholePages (layout_of s)
unfolding layout_of
whole_pages s =
    record {
      prg_rom = round_whole s.prg_rom;
      chr = pick_all (λ (r : Region). r.len % 1024 ≡ 0) (eqb s.chr_rom 0) _ _ (λ e. round_whole (chr_ram_size s)) (λ e. round_whole s.chr_rom);
      prg_ram = round_whole s.prg_ram;
      battery_ext = round_whole s.battery_ext;
      ciram = round_whole (ciram_size s);
      ex_ram = round_whole s.ex_ram;
    }
