-- What the turns ask and promise, of the search itself and of where it stands.
use Rattle.std.specs.Prelude.{List, ℕ, ◌<◌, ℤ, length, get_or, Option, Result}
use Rattle.minuska.specs.declared.Refusal.{Refusal}
use Rattle.minuska.specs.declared.Stepped.{Stepped}
use Rattle.memory.specs.Layout.{frame_at, OwnFits}
use Rattle.replay.specs.declared.search.Search.{Search}
use Rattle.replay.specs.declared.search.Standing.{Standing}
use Rattle.replay.specs.declared.search.Turned.{Turned}
use Rattle.replay.specs.Reading.{table_of}
use Rattle.replay.specs.Turns.{position_at, SoundFrames, SlicesFit, Sought, Descends, Settles, TurnContract}

abbrev pub Fits : Search → List ℤ → List ℤ → Type 0
Fits s out work = SlicesFit s.room s.log.now out work

abbrev pub Sound : Search → List ℤ → ℕ → Type 0
Sound s work d = SoundFrames s.rules s.room (length s.log.now) work d

-- any of the frames may be looked at
abbrev pub Spare : Search → List ℤ → Type 0
Spare s work = (i : ℕ) → i < length s.log.now → OwnFits (frame_at s.room work i)

module _ (p : Standing) where
  abbrev search : Search
  search = p.search.now

  abbrev pub SoughtAt : List ℤ → ℕ → Type 0
  SoughtAt work q = Sought (table_of search.table.words.now) search.rules (get_or search.log.now p.depth 0) (position_at search.room work p.depth) q

  abbrev pub DescendsFrom : ℕ → List ℤ → List ℤ → List ℤ → Turned → Type 0
  DescendsFrom k out work work' r = Descends k (length search.log.now) search.room search.remember p.depth out work work' r

  abbrev pub SettlesAt : Result (Option Stepped) Refusal → List ℤ → List ℤ → List ℤ → Turned → Type 0
  SettlesAt a out work work' r = Settles a (length search.log.now) search.room search.remember p.depth out work work' r

  abbrev pub Turns : List ℤ → List ℤ → List ℤ → List ℤ → Turned → Type 0
  Turns out work out' work' r = TurnContract search.table.words.now search.rules search.room search.log.now p.depth out work out' work' r
