use native.Mathlib.Omega.{arith}
use Rattle.replay.proofs.Rows.{length-rows_in}
use Rattle.replay.proofs.Indexing.{grown-new, searchable-more}
use Rattle.replay.proofs.index.Rows.add.Goals as goal

pub insert-requires : goal.insert-requires
insert-requires c = (omega (arith, c.requires.gap.within, length-rows_in c.args.self.now.count c.args.self.now.cells.now), omega (arith, c.requires.room, c.requires.search.wide), omega (arith, c.requires.search.wide))

pub returns-clause-search : goal.returns-clause-search
returns-clause-search c = searchable-more c.args.self.now.count c.args.id c.args.place c.args.self.now.index.now _ c.args.self.now.cells.now c.requires.room c.requires.search c.requires.gap c.insert.ensures c.insert.auto.index

pub returns-clause-grown : goal.returns-clause-grown
returns-clause-grown c = grown-new c.args.self.now.count c.args.self.now.cells.now c.args.id c.args.self.now.index.now _ c.args.place c.requires.search.indexed c.requires.gap c.insert.ensures
